-- The generation at the level of a call: it rises exactly at a GOOD of actions 0, 3, 4, 6, with 01's one exception.
-- Assumes nothing.
use mathlib.Core.Path.{◌≡◌, refl, ap, ◌∙◌}
use mathlib.Core.Logic.{◌≢◌}
use mathlib.Core.Bool.{Bool, true, false, not, ◌&&◌, ◌||◌, cond}
use mathlib.Core.List.{List}
use Prim.Native.Nat.{ℕ, zero, suc, ◌+◌, ◌%◌, ◌^◌}
use native.Mathlib.Omega.{arith}
use borrow.Author.Tests.{ne_eqb, leb-true}
use lib.Dec.{T, eqb, eqb→eq, leb}
use Rattle.std.specs.Prelude.{None}
use Rattle.fields.specs.Field.{field, byte}
use Rattle.fields.specs.Bits.{number_in}
use Rattle.fields.proofs.Tests.{and_l, test, by_equal}
use Rattle.answers.specs.declared.Answer.TheVariants.{Good}
use Rattle.answers.specs.Answers.{number_of}
use Rattle.rights.specs.declared.Rights.{Rights}
use Rattle.rights.specs.declared.Parameters.{Parameters}
use Rattle.rights.specs.Places.{registered}
use Rattle.rights.specs.Rights.{is_one_of}
use Rattle.rights.proofs.Generation.{raises, next_generation, acted_generation}
use Rattle.forms.specs.declared.Command.{Command}
use Rattle.forms.specs.declared.Command.TheVariants.{Tells, Moves, Alters}
use Rattle.forms.specs.declared.Request.{Request}
use Rattle.forms.specs.Forms.{takes, lines, listed, lookup, action, entry_for, entry_of, request_by, Asked, nothing, asks, asked_by, asked_in, asked_of}
use Rattle.forms.proofs.Table.{taken, passed, lookup_passes}
use Rattle.store.specs.declared.Unit.{Unit}
use Rattle.store.specs.Store.{Store, Call, enacted, relieved}
use Rattle.store.specs.Alter.{parameters_of}
use Rattle.store.specs.Step.{command_store, store_by, step}
use Rattle.store.proofs.StoreLaws.{step_ways, unit_left}
use Rattle.demands.specs.History.{after, is_out}
use Rattle.demands.specs.Generation.{generation, service_key, action_raises, raising}
use Rattle.demands.proofs.Demand1.{told_store_law, refused_store_law}
use Rattle.demands.proofs.Demand3.{other_alters_not}
use Rattle.demands.proofs.Moving.{done_after}

-- ---- what is done raises the generation by its kind

unfoldable raises_as : Command → Rights → ℕ → Parameters → Bool
raises_as (Tells t) r n o = false
raises_as (Moves m) r n o = false
raises_as (Alters a) r n o = raises a r n o

command_generation : (k : Command) (q : Request) (s : Store) (c : Call)
    → generation (command_store k q s c)
    ≡ cond (raises_as k s.unit.rights c.nexus (parameters_of q c.data_out)) (next_generation (generation s)) (generation s)
unfolding command_store generation raises_as enacted
command_generation (Tells t) q s c = refl
command_generation (Moves m) q s c = refl
command_generation (Alters a) q s c = acted_generation a s.unit.rights c.nexus (parameters_of q c.data_out)

unfoldable raises_in : Asked → Rights → ℕ → List ℕ → Bool
raises_in nothing r n list = false
raises_in (asks q) r n list = raises_as q.command r n (parameters_of q list)

done_generation : (x : Asked) (s : Store) (c : Call)
    → generation (store_by x s c) ≡ cond (raises_in x s.unit.rights c.nexus c.data_out) (next_generation (generation s)) (generation s)
unfolding store_by raises_in
done_generation nothing s c = refl
done_generation (asks q) s c = command_generation q.command q s c

-- ---- the kind by the service action, in the table's lines of 5Fh

save : (known none : Bool) → known || not none ≡ not (not known && none)
save true true = refl
save true false = refl
save false true = refl
save false false = refl

-- the lines of 5Fh have actions up to 6
abbrev beyond : ℕ → ℕ
beyond a = suc (suc (suc (suc (suc (suc (suc a))))))

not_beyond : (a k : ℕ) → leb k 6 ≡ true → eqb (beyond a) k ≡ false
not_beyond a k h = let small = leb-true k 6 h in ne_eqb (beyond a) k (omega arith)

-- an action that none of them has
other_entry : (a : ℕ) → entry_for 0x5F (beyond a) ≡ listed 10 None
unfolding entry_for lines takes taken passed
other_entry a = lookup_passes 0x5F (beyond a) None lines (simp not_beyond)

module _ (r : Rights) (n : ℕ) (cdb list : List ℕ) where
  abbrev Said : ℕ → Type 0
  Said a = raises_in (asked_in (entry_for 0x5F a) cdb) r n list ≡ action_raises a (registered n r.places) (eqb (field 8 8 list) 0)

  other_said : (a : ℕ) → Said (beyond a)
  unfolding asked_in asked_by raises_in is_one_of action_raises
  other_said a = simp (other_entry, not_beyond)

  said : (a : ℕ) → Said a
  unfolding entry_for lookup lines takes asked_in asked_by request_by raises_in raises_as raises parameters_of number_in is_one_of action_raises
  said zero = save (registered n r.places) (eqb (field 8 8 list) 0)
  said (suc zero) = refl
  said (suc (suc zero)) = refl
  said (suc (suc (suc zero))) = refl
  said (suc (suc (suc (suc zero)))) = refl
  said (suc (suc (suc (suc (suc zero))))) = refl
  said (suc (suc (suc (suc (suc (suc zero)))))) = save (registered n r.places) (eqb (field 8 8 list) 0)
  said (suc (suc (suc (suc (suc (suc (suc a))))))) = other_said a

-- ---- a call

-- the generation where a reservation-out call is done
out_raises : (s : Store) (c : Call) → T (is_out c) → raises_in (asked_of c.cdb) s.unit.rights c.nexus c.data_out ≡ raising s c
unfolding is_out raising service_key asked_of entry_of
out_raises s c h =
    ap (λ (m : ℕ). raises_in (asked_in (entry_for m (action c.cdb)) c.cdb) s.unit.rights c.nexus c.data_out) (eqb→eq (byte 0 c.cdb) 0x5F h)
    ∙ said s.unit.rights c.nexus c.cdb c.data_out (action c.cdb)
    ∙ in_front (eqb (byte 0 c.cdb) 0x5F) _ h
  where
    in_front : (b x : Bool) → T b → x ≡ b && x
    in_front true x t = refl
    in_front false x t = absurd t

out_generation : (s : Store) (c : Call) → T (is_out c)
    → generation (store_by (asked_of c.cdb) s c) ≡ cond (raising s c) (next_generation (generation s)) (generation s)
out_generation s c h =
    done_generation (asked_of c.cdb) s c ∙ ap (λ (b : Bool). cond b (next_generation (generation s)) (generation s)) (out_raises s c h)

raising_out : (s : Store) (c : Call) → T (raising s c) → T (is_out c)
unfolding raising
raising_out s c t = and_l (is_out c) (action_raises (action c.cdb) (registered c.nexus s.unit.rights.places) (eqb (service_key c) 0)) t

pub generation_rises : (s : Store) (c : Call) → (step s c).seen.answer ≡ Good → T (raising s c)
    → generation (after step s c) ≡ (generation s + 1) % 2 ^ 32
unfolding next_generation
generation_rises s c e t = ap generation (done_after s c e) ∙ out_generation s c (raising_out s c t) ∙ chosen (raising s c) _ _ t
  where
    chosen : (b : Bool) (x y : ℕ) → T b → cond b x y ≡ x
    chosen true x y t = refl
    chosen false x y t = absurd t

pub generation_refused : (s : Store) (c : Call) → (step s c).seen.answer ≢ Good → generation (after step s c) ≡ generation s
unfolding generation relieved
generation_refused s c d =
    by_equal (number_of (step s c).seen.answer) 13 (λ _. generation (after step s c) ≡ generation s)
    (λ e. ap generation (told_store_law s c e)) (λ n. ap generation (refused_store_law s c d n))

pub generation_stays : (s : Store) (c : Call) → T (not (raising s c)) → generation (after step s c) ≡ generation s
unfolding after generation relieved
generation_stays s c t =
    test (is_out c)
    (λ h. step_ways (λ x. generation x ≡ generation s) s c (λ g. out_generation s c h ∙ other (raising s c) _ _ t) refl (λ _. refl))
    (λ h. step_ways (λ x. generation x ≡ generation s) s c
    (λ _. ap (λ (u : Unit). u.rights.generation) (unit_left (asked_of c.cdb) s c (other_alters_not c h))) refl (λ _. refl))
  where
    other : (b : Bool) (x y : ℕ) → T (not b) → cond b x y ≡ y
    other true x y t = absurd t
    other false x y t = refl
