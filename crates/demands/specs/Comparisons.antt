-- No comparison of the checker is idle: for each a checker that leaves it out, and a build or a case that nothing else refuses.
-- Assumes nothing.
use Rattle.std.specs.Prelude.{◌≡◌, true, ◌&&◌, List, [], ◌∷◌, ◌++◌, ℕ, ◌-◌, Some, eqb, length, take, drop}
use Rattle.fields.specs.Bytes.{zeros}
use Rattle.answers.specs.declared.Answer.{Answer}
use Rattle.answers.specs.declared.Answer.TheVariants.{Good, Refused, Conflict, Unusable, Short}
use Rattle.answers.specs.Answers.{number_of, status_of}
use Rattle.pool.specs.Marks.{marks_of}
use Rattle.pool.specs.Pool.{Pool, pool}
use Rattle.rights.specs.Rights.{raised}
use Rattle.store.specs.Store.{Store, Call, Seen, with_rights, with_unit, with_pool}
use Rattle.store.specs.Step.{step}
use Rattle.demands.specs.History.{Build}
use Rattle.demands.specs.Checker.{Want, lays, same, same_unit, number_shows, status_shows, sense_shows, returned_shows, data_shows, ends, Checker, whole, Case, ◌gives◌}
use Rattle.demands.specs.Bench.{two, made, read_10}
use Rattle.demands.specs.Cases.{case_still}

-- ---- what the comparisons of a call come to

pub record Shown (w : Want) (x : Seen) : Type 0 where
  pub number : number_of x.answer ≡ w.number
  pub status : status_of x.answer ≡ w.status
  pub sense : x.sense ≡ w.sense
  pub returned : x.returned ≡ w.returned
  pub data_in : x.data_in ≡ w.data_in

-- ---- checkers that leave one comparison out

unfoldable pub without_number : Checker
without_number = record { shows = status_shows ∷ sense_shows ∷ returned_shows ∷ data_shows ∷ []; ends = ends }

unfoldable pub without_status : Checker
without_status = record { shows = number_shows ∷ sense_shows ∷ returned_shows ∷ data_shows ∷ []; ends = ends }

unfoldable pub without_sense : Checker
without_sense = record { shows = number_shows ∷ status_shows ∷ returned_shows ∷ data_shows ∷ []; ends = ends }

unfoldable pub without_returned : Checker
without_returned = record { shows = number_shows ∷ status_shows ∷ sense_shows ∷ data_shows ∷ []; ends = ends }

unfoldable pub without_data : Checker
without_data = record { shows = number_shows ∷ status_shows ∷ sense_shows ∷ returned_shows ∷ []; ends = ends }

unfoldable pub without_end : Checker
without_end = record { shows = whole.shows; ends = λ w s. true }

-- and one that compares all but the bytes in the slots
unfoldable pub without_medium : Checker
without_medium = record { shows = whole.shows; ends = λ w s. eqb s.format w.format && (same_unit s.unit w.unit && (same s.pool.owners w.pool.owners && same s.pool.marks w.pool.marks)) }

-- ---- builds that are wrong in one thing

-- `step`, but for what is seen
unfoldable pub seen_by : (Call → Seen → Seen) → Build
seen_by g s c = record { seen = g c (step s c).seen; store = (step s c).store }

-- 11 for 12: both have neither status nor sense
unfoldable pub eleven_for : Answer → Answer
eleven_for Good = Good
eleven_for (Refused x) = Refused x
eleven_for Conflict = Conflict
eleven_for Unusable = Unusable
eleven_for Short = Unusable

unfoldable pub eleven : Build
eleven = seen_by (λ c x. record { answer = eleven_for x.answer; returned = x.returned; data_in = x.data_in; sense = x.sense })

-- sense is left as lent, and sense past its 18 bytes is cleared
unfoldable pub senseless : Build
senseless = seen_by (λ c x. record { answer = x.answer; returned = x.returned; data_in = x.data_in; sense = c.sense })

unfoldable pub cleared_from : ℕ → List ℕ → List ℕ
cleared_from n bs = take n bs ++ zeros (length bs - n)

unfoldable pub sense_past : Build
sense_past = seen_by (λ c x. record { answer = x.answer; returned = x.returned; data_in = x.data_in; sense = cleared_from 18 x.sense })

-- as many bytes return as were lent
unfoldable pub returns_all : Build
returns_all = seen_by (λ c x. record { answer = x.answer; returned = length c.data_in; data_in = x.data_in; sense = x.sense })

-- data-in past the returned bytes is cleared
unfoldable pub data_past : Build
data_past = seen_by (λ c x. record { answer = x.answer; returned = x.returned; data_in = cleared_from x.returned x.data_in; sense = x.sense })

-- every call raises the generation
unfoldable pub counting : Build
counting s c = let t = (step s c).store in record { seen = (step s c).seen; store = with_unit t (with_rights t.unit (raised t.unit.rights)) }

-- slots are given from the highest down: `step` on the two slots turned round
unfoldable pub turned : Pool → Pool
turned p =
    let owners = drop 1 p.owners ++ take 1 p.owners in
    pool owners (marks_of owners) (drop 512 p.medium ++ take 512 p.medium)

unfoldable pub turned_store : Store → Store
turned_store s = with_pool s (turned s.pool)

unfoldable pub highest : Build
highest s c = record { seen = (step (turned_store s) c).seen; store = turned_store (step (turned_store s) c).store }

-- ---- and a case that is: the number gives the status, so that no build is wrong in the status alone

unfoldable pub case_other_status : Case
case_other_status = case_still (made (0 ∷ 0 ∷ []) two 6 1 0) (read_10 3 0 1 gives lays 10 (Some 0x02) [] ∷ [])
