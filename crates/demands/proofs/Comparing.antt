-- The checker compares all: each comparison refuses what all the others let pass, and what passes is equal.
-- Assumes nothing.
use mathlib.Core.Path.{◌≡◌, refl, ap, ap₂, ◌∙◌}
use mathlib.Core.Bool.{true, not, ◌&&◌}
use mathlib.Core.List.{List, [], ◌∷◌}
use Prim.Native.Nat.{ℕ}
use lib.Dec.{T, eqb, eqb→eq}
use Rattle.std.specs.Prelude.{Option, Some, None}
use Rattle.fields.proofs.Tests.{and_l, and_r}
use Rattle.answers.specs.Answers.{number_of, status_of}
use Rattle.pool.specs.Pool.{Pool, pool}
use Rattle.rights.specs.declared.Place.{Place}
use Rattle.rights.specs.declared.Rights.{Rights}
use Rattle.store.specs.declared.Unit.{Unit}
use Rattle.store.specs.Store.{Store, Seen}
use Rattle.store.specs.Step.{step}
use Rattle.store.proofs.StoreLaws.{store_is}
use Rattle.demands.specs.Checker.{Want, same, same_status, same_places, same_rights, same_unit, same_pool, number_shows, status_shows, sense_shows, returned_shows, data_shows, ends, whole, met, passed_by, passed}
use Rattle.demands.specs.Cases.{case_a, case_f, case_h}
use Rattle.demands.specs.FurtherCases.{case_counts}
use Rattle.demands.specs.Comparisons.{Shown, without_number, without_status, without_sense, without_returned, without_data, without_end, seen_by, eleven_for, eleven, senseless, cleared_from, sense_past, returns_all, data_past, counting, turned, turned_store, highest, case_other_status}
use Rattle.demands.proofs.Computing.{meaning}

-- ---- what one comparison alone refuses

pub only_number : T (passed_by without_number eleven case_counts && not (passed eleven case_counts))
unfolding meaning without_number seen_by eleven_for eleven
only_number = tt

pub only_status : T (passed_by without_status step case_other_status && not (passed step case_other_status))
unfolding meaning without_status case_other_status
only_status = tt

pub only_sense : T (passed_by without_sense senseless case_f && not (passed senseless case_f))
unfolding meaning without_sense seen_by senseless
only_sense = tt

pub only_sense_past : T (passed_by without_sense sense_past case_a && not (passed sense_past case_a))
unfolding meaning without_sense seen_by cleared_from sense_past
only_sense_past = tt

pub only_returned : T (passed_by without_returned returns_all case_a && not (passed returns_all case_a))
unfolding meaning without_returned seen_by returns_all
only_returned = tt

pub only_data : T (passed_by without_data data_past case_a && not (passed data_past case_a))
unfolding meaning without_data seen_by cleared_from data_past
only_data = tt

pub only_end_rights : T (passed_by without_end counting case_f && not (passed counting case_f))
unfolding meaning without_end counting
only_end_rights = tt

-- the slots of H show
pub only_end : T (passed_by without_end highest case_h && not (passed highest case_h))
unfolding meaning without_end turned turned_store highest
only_end = tt

-- ---- what passes is equal

same_equal : (xs ys : List ℕ) → T (same xs ys) → xs ≡ ys
unfolding same
same_equal [] [] t = refl
same_equal [] (y ∷ ys) t = absurd t
same_equal (x ∷ xs) [] t = absurd t
same_equal (x ∷ xs) (y ∷ ys) t =
    ap₂ (λ (z : ℕ) (zs : List ℕ). z ∷ zs) (eqb→eq x y (and_l (eqb x y) (same xs ys) t)) (same_equal xs ys (and_r (eqb x y) (same xs ys) t))

status_equal : (a b : Option ℕ) → T (same_status a b) → a ≡ b
unfolding same_status
status_equal (Some m) (Some n) t = ap Some (eqb→eq m n t)
status_equal (Some m) None t = absurd t
status_equal None (Some n) t = absurd t
status_equal None None t = refl

places_equal : (ps qs : List Place) → T (same_places ps qs) → ps ≡ qs
unfolding same_places
places_equal [] [] t = refl
places_equal [] (q ∷ qs) t = absurd t
places_equal (p ∷ ps) [] t = absurd t
places_equal (p ∷ ps) (q ∷ qs) t =
    let n = eqb p.nexus q.nexus in
    let k = eqb p.key q.key in
    let r = and_r n (k && same_places ps qs) t in
    ap₂ (λ (z : Place) (zs : List Place). z ∷ zs)
    (ap₂ (λ (nexus key : ℕ). record { nexus = nexus; key = key }) (eqb→eq p.nexus q.nexus (and_l n (k && same_places ps qs) t)) (eqb→eq p.key q.key (and_l k (same_places ps qs) r)))
    (places_equal ps qs (and_r k (same_places ps qs) r))

rights_equal : (r q : Rights) → T (same_rights r q) → r ≡ q
unfolding same_rights
rights_equal r q t =
    let ks = eqb r.kind q.kind in
    let hs = eqb r.holder q.holder in
    let gs = eqb r.generation q.generation in
    let ps = same_places r.places q.places in
    let u = and_r ps (ks && (hs && gs)) t in
    let v = and_r ks (hs && gs) u in
    fields (places_equal r.places q.places (and_l ps (ks && (hs && gs)) t)) (eqb→eq r.kind q.kind (and_l ks (hs && gs) u))
    (eqb→eq r.holder q.holder (and_l hs gs v)) (eqb→eq r.generation q.generation (and_r hs gs v))
  where
    fields : r.places ≡ q.places → r.kind ≡ q.kind → r.holder ≡ q.holder → r.generation ≡ q.generation → r ≡ q
    fields a b c d =
        ap₂ (λ (x : List Place) (y : ℕ). record { places = x; kind = y; holder = r.holder; generation = r.generation }) a b
        ∙ ap₂ (λ (x y : ℕ). record { places = q.places; kind = q.kind; holder = x; generation = y }) c d

unit_equal : (u v : Unit) → T (same_unit u v) → u ≡ v
unfolding same_unit
unit_equal u v t =
    let c = eqb u.capacity v.capacity in
    let r = same_rights u.rights v.rights in
    let a = same u.attentions v.attentions in
    let rest = and_r c (r && a) t in
    ap₂ (λ (x : ℕ) (y : Rights). record { capacity = x; rights = y; attentions = u.attentions })
    (eqb→eq u.capacity v.capacity (and_l c (r && a) t)) (rights_equal u.rights v.rights (and_l r a rest))
    ∙ ap (λ (z : List ℕ). record { capacity = v.capacity; rights = v.rights; attentions = z })
    (same_equal u.attentions v.attentions (and_r r a rest))

pool_equal : (p q : Pool) → T (same_pool p q) → p ≡ q
unfolding same_pool
pool_equal p q t =
    let o = same p.owners q.owners in
    let k = same p.marks q.marks in
    let m = same p.medium q.medium in
    let rest = and_r o (k && m) t in
    ap₂ (λ (x y : List ℕ). pool x y p.medium) (same_equal p.owners q.owners (and_l o (k && m) t)) (same_equal p.marks q.marks (and_l k m rest))
    ∙ ap (pool q.owners q.marks) (same_equal p.medium q.medium (and_r k m rest))

-- the store in the end is the one wanted
pub ends_equal : (w s : Store) → T (ends w s) → s ≡ w
unfolding ends
ends_equal w s t =
    let f = eqb s.format w.format in
    let u = same_unit s.unit w.unit in
    let p = same_pool s.pool w.pool in
    let r = and_r f (u && p) t in
    store_is s w (eqb→eq s.format w.format (and_l f (u && p) t)) (unit_equal s.unit w.unit (and_l u p r)) (pool_equal s.pool w.pool (and_r u p r))

-- and all that a call shows is as wanted
pub met_equal : (w : Want) (x : Seen) → T (met whole.shows w x) → Shown w x
unfolding whole met number_shows status_shows sense_shows returned_shows data_shows
met_equal w x t =
    let n = number_shows w x in
    let st = status_shows w x in
    let se = sense_shows w x in
    let r = returned_shows w x in
    let d = data_shows w x in
    let t1 = and_r n (st && (se && (r && (d && true)))) t in
    let t2 = and_r st (se && (r && (d && true))) t1 in
    let t3 = and_r se (r && (d && true)) t2 in
    let t4 = and_r r (d && true) t3 in
    record {
      number = eqb→eq (number_of x.answer) w.number (and_l n (st && (se && (r && (d && true)))) t);
      status = status_equal (status_of x.answer) w.status (and_l st (se && (r && (d && true))) t1);
      sense = same_equal x.sense w.sense (and_l se (r && (d && true)) t2);
      returned = eqb→eq x.returned w.returned (and_l r (d && true) t3);
      data_in = same_equal x.data_in w.data_in (and_l d true t4);
    }
