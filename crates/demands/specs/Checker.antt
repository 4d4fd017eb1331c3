-- What a case is, and when a build meets it: all that each call shows is compared, and the whole store in the end.
-- Assumes nothing.
use Rattle.std.specs.Prelude.{Bool, true, false, ◌&&◌, List, [], ◌∷◌, ◌++◌, ℕ, Option, Some, None, eqb, length, drop}
use Rattle.fields.specs.Bytes.{zeros}
use Rattle.fields.specs.Field.{bytes}
use Rattle.answers.specs.Answers.{number_of, status_of}
use Rattle.pool.specs.Pool.{Pool}
use Rattle.rights.specs.declared.Place.{Place}
use Rattle.rights.specs.declared.Rights.{Rights}
use Rattle.store.specs.declared.Unit.{Unit}
use Rattle.store.specs.Store.{Store, Call, Seen}
use Rattle.demands.specs.History.{Build}

-- ---- what one call must give

-- answer number, status, the whole sense buffer afterwards, how many bytes return, and the whole data-in buffer afterwards
pub record Want : Type 0 where
  pub number : ℕ
  pub status : Option ℕ
  pub sense : List ℕ
  pub returned : ℕ
  pub data_in : List ℕ

-- these bytes laid over what was lent
unfoldable pub over : List ℕ → List ℕ → List ℕ
over bs lent = bs ++ drop (length bs) lent

-- GOOD: these bytes return, and sense is as lent
unfoldable pub good : List ℕ → Call → Want
good bs c = record { number = 0; status = Some 0x00; sense = c.sense; returned = length bs; data_in = over bs c.data_in }

-- not GOOD: these bytes are laid over sense, and data-in is as lent
unfoldable pub lays : ℕ → Option ℕ → List ℕ → Call → Want
lays number status bs c = record { number = number; status = status; sense = over bs c.sense; returned = 0; data_in = c.data_in }

-- status 02h, and "fixed format: byte 0 70h, byte 2 the key, byte 7 0Ah, bytes 12 and 13 the codes, others 0", but for `response`, byte 0, and
-- `address`, the four bytes 3 to 6; and for `place`, the three bytes 15 to 17
unfoldable pub refused_with : ℕ → ℕ → ℕ → ℕ → ℕ → List ℕ → List ℕ → Call → Want
refused_with n response key asc ascq address place =
    lays n (Some 0x02) (response ∷ 0 ∷ key ∷ (address ++ (0x0A ∷ 0 ∷ 0 ∷ 0 ∷ 0 ∷ asc ∷ ascq ∷ 0 ∷ place)))

-- Q-4: "For answers 2 and 5 fill sense bytes 15 to 17 per SPC: byte 15 bit 7 set, bit 6 set for the CDB and clear for the list, bit 3 set, bits 2-0 the
-- top bit of the field; 16-17 the field's first byte."
unfoldable pub refused_at : ℕ → ℕ → ℕ → ℕ → List ℕ → Call → Want
refused_at n key asc ascq place = refused_with n 0x70 key asc ascq (zeros 4) place

-- all other answers with sense point nowhere, and tell no address
unfoldable pub refused : ℕ → ℕ → ℕ → ℕ → Call → Want
refused n key asc ascq = refused_at n key asc ascq (0 ∷ 0 ∷ 0 ∷ [])

-- 3, and 8, with an address that fits: Q-8: "any other sets byte 0 to F0h"
unfoldable pub past_end_at : ℕ → Call → Want
past_end_at address = refused_with 3 0xF0 0x05 0x21 0x00 (bytes 4 address) (zeros 3)

unfoldable pub no_room_at : ℕ → Call → Want
no_room_at address = refused_with 8 0xF0 0x07 0x27 0x07 (bytes 4 address) (zeros 3)

-- 2, and 5
unfoldable pub wrong_field_at : List ℕ → Call → Want
wrong_field_at place = refused_at 2 0x05 0x24 0x00 place

unfoldable pub wrong_list_at : List ℕ → Call → Want
wrong_list_at place = refused_at 5 0x05 0x26 0x00 place

-- Q-6: 13, with what waited
unfoldable pub attention_told : ℕ → Call → Want
attention_told ascq = refused 13 0x06 0x2A ascq

-- 10, status 18h
unfoldable pub conflicts : Call → Want
conflicts = lays 10 (Some 0x18) []

-- 11 or 12, no status
unfoldable pub no_status : ℕ → Call → Want
no_status n = lays n None []

-- ---- the comparisons

unfoldable pub same : List ℕ → List ℕ → Bool
same [] [] = true
same [] (y ∷ ys) = false
same (x ∷ xs) [] = false
same (x ∷ xs) (y ∷ ys) = eqb x y && same xs ys

unfoldable pub same_status : Option ℕ → Option ℕ → Bool
same_status (Some m) (Some n) = eqb m n
same_status (Some m) None = false
same_status None (Some n) = false
same_status None None = true

unfoldable pub same_places : List Place → List Place → Bool
same_places [] [] = true
same_places [] (y ∷ ys) = false
same_places (x ∷ xs) [] = false
same_places (x ∷ xs) (y ∷ ys) = eqb x.nexus y.nexus && (eqb x.key y.key && same_places xs ys)

unfoldable pub same_rights : Rights → Rights → Bool
same_rights r q =
    same_places r.places q.places && (eqb r.kind q.kind && (eqb r.holder q.holder && eqb r.generation q.generation))

unfoldable pub same_unit : Unit → Unit → Bool
same_unit u v = eqb u.capacity v.capacity && (same_rights u.rights v.rights && same u.attentions v.attentions)

unfoldable pub same_pool : Pool → Pool → Bool
same_pool p q = same p.owners q.owners && (same p.marks q.marks && same p.medium q.medium)

-- of what a call shows
unfoldable pub number_shows : Want → Seen → Bool
number_shows w x = eqb (number_of x.answer) w.number

unfoldable pub status_shows : Want → Seen → Bool
status_shows w x = same_status (status_of x.answer) w.status

unfoldable pub sense_shows : Want → Seen → Bool
sense_shows w x = same x.sense w.sense

unfoldable pub returned_shows : Want → Seen → Bool
returned_shows w x = eqb x.returned w.returned

unfoldable pub data_shows : Want → Seen → Bool
data_shows w x = same x.data_in w.data_in

-- of the store in the end with the one wanted: the format, the unit's record, owners, marks, and every byte of the medium
unfoldable pub ends : Store → Store → Bool
ends w s = eqb s.format w.format && (same_unit s.unit w.unit && same_pool s.pool w.pool)

-- what is compared of each call, and how the store in the end
pub record Checker : Type 0 where
  pub shows : List (Want → Seen → Bool)
  pub ends : Store → Store → Bool

unfoldable pub whole : Checker
whole = record { shows = number_shows ∷ status_shows ∷ sense_shows ∷ returned_shows ∷ data_shows ∷ []; ends = ends }

unfoldable pub met : List (Want → Seen → Bool) → Want → Seen → Bool
met [] w x = true
met (p ∷ ps) w x = p w x && met ps w x

-- ---- a case

-- a call, and what it must give by what it lends
infix 68 ◌gives◌
pub data Expect : Type 0 where
  ◌gives◌ : Call → (Call → Want) → Expect

-- a store, calls on it, and the store that must stand in the end
pub record Case : Type 0 where
  pub start : Store
  pub calls : List Expect
  pub end : Store

unfoldable pub run : Checker → Build → Store → Store → List Expect → Bool
run k f end s [] = k.ends end s
run k f end s ((c gives w) ∷ es) = met k.shows (w c) (f s c).seen && run k f end (f s c).store es

unfoldable pub passed_by : Checker → Build → Case → Bool
passed_by k f x = run k f x.end x.start x.calls

unfoldable pub passed : Build → Case → Bool
passed f x = passed_by whole f x

unfoldable pub all_passed : Build → List Case → Bool
all_passed f [] = true
all_passed f (x ∷ xs) = passed f x && all_passed f xs
