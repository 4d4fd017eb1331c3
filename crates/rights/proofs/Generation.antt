-- When the generation rises: "by 1 at each GOOD of actions 0, 3, 4, 6, save where an unregistered nexus sends service action key 0 in 0 or 6".
-- Assumes nothing.
use mathlib.Core.Path.{◌≡◌, refl, ap, ◌∙◌}
use mathlib.Core.Bool.{Bool, true, false, not, ◌||◌, cond}
use mathlib.Core.List.{map}
use Prim.Native.Nat.{ℕ, ◌+◌, ◌%◌, ◌^◌}
use lib.Dec.{T, eqb}
use Rattle.std.specs.Prelude.{Result, Ok}
use Rattle.std.specs.Result.{result_unwrap_or}
use Rattle.answers.specs.declared.Answer.{Answer}
use Rattle.answers.specs.declared.Answer.TheVariants.{Good}
use Rattle.answers.specs.Order.{first, refuses}
use Rattle.answers.proofs.OrderLaws.{if_good_law, if_refused}
use Rattle.rights.specs.declared.Rights.{Rights}
use Rattle.rights.specs.declared.Parameters.{Parameters}
use Rattle.rights.specs.declared.Action.{Action}
use Rattle.rights.specs.declared.Action.TheVariants.{Register, Reserve, Release, Clear, Preempt, RegisterIgnoring}
use Rattle.rights.specs.Places.{registered, rekeyed, enrol}
use Rattle.rights.specs.Rights.{gone, holder_key, holds, with_places, with_reservation, with_generation, held, ended, settled, raised}
use Rattle.rights.specs.Actions.{decision_rows, registering, reserving, releasing, clearing, preempting, taking_over, acted, decided}

-- does an action that nothing refuses raise the generation
unfoldable pub raises : Action → Rights → ℕ → Parameters → Bool
raises Register r n o = registered n r.places || not (eqb o.service 0)
raises Reserve r n o = false
raises Release r n o = false
raises Clear r n o = true
raises Preempt r n o = true
raises RegisterIgnoring r n o = registered n r.places || not (eqb o.service 0)

-- "after FFFF_FFFFh the generation is 0"
unfoldable pub next_generation : ℕ → ℕ
next_generation g = (g + 1) % 2 ^ 32

-- both ways have the generation g
either : (b : Bool) (x y : Rights) (g : ℕ) → x.generation ≡ g → y.generation ≡ g → (cond b x y).generation ≡ g
either true x y g p q = p
either false x y g p q = q

raised_generation : (r : Rights) → (raised r).generation ≡ next_generation r.generation
unfolding raised with_generation next_generation
raised_generation r = refl

settled_generation : (r : Rights) → (settled r).generation ≡ r.generation
unfolding settled ended with_reservation
settled_generation r = either (gone r) _ r r.generation refl refl

-- after a change that leaves the generation, and raised
raised_after : (x : Rights) (g : ℕ) → x.generation ≡ g → (raised x).generation ≡ next_generation g
raised_after x g e = raised_generation x ∙ ap next_generation e

registering_generation : (r : Rights) (n k : ℕ)
    → (registering r n k).generation ≡ cond (registered n r.places || not (eqb k 0)) (next_generation r.generation) r.generation
unfolding registering with_places
registering_generation r n k = go (registered n r.places) (eqb k 0)
  where
    go : (b z : Bool) → (cond b (raised (settled (with_places r (map (rekeyed n k) r.places)))) (cond z r (raised (with_places r (enrol n k r.places))))).generation
        ≡ cond (b || not z) (next_generation r.generation) r.generation
    go true z = raised_after (settled (with_places r (map (rekeyed n k) r.places))) r.generation (settled_generation (with_places r (map (rekeyed n k) r.places)))
    go false true = refl
    go false false = raised_after (with_places r (enrol n k r.places)) r.generation refl

preempting_generation : (r : Rights) (n kind k : ℕ) → (preempting r n kind k).generation ≡ next_generation r.generation
unfolding preempting with_places with_reservation held
preempting_generation r n kind k =
    either (eqb (holder_key r) k) _ _ (next_generation r.generation)
    (raised_after _ r.generation refl)
    (raised_after (settled _) r.generation (settled_generation _))

taking_over_generation : (r : Rights) (n kind : ℕ) → (taking_over r n kind).generation ≡ next_generation r.generation
unfolding taking_over with_places with_reservation held
taking_over_generation r n kind = raised_after _ r.generation refl

-- the generation after an action that nothing refuses
pub acted_generation : (a : Action) (r : Rights) (n : ℕ) (o : Parameters)
    → (acted a r n o).generation ≡ cond (raises a r n o) (next_generation r.generation) r.generation
unfolding acted raises reserving releasing clearing held ended with_places with_reservation
acted_generation Register r n o = registering_generation r n o.service
acted_generation Reserve r n o = either (eqb r.kind 0) _ _ r.generation refl refl
acted_generation Release r n o = either (holds r n) _ _ r.generation refl refl
acted_generation Clear r n o = raised_generation _
acted_generation Preempt r n o =
    either (eqb o.service 0) _ _ (next_generation r.generation) (taking_over_generation r n o.kind) (preempting_generation r n o.kind o.service)
acted_generation RegisterIgnoring r n o = registering_generation r n o.service

-- of a decision: it rises at a GOOD, and a refusal leaves the rights
pub decided_good : (a : Action) (r : Rights) (n : ℕ) (o : Parameters) → first (decision_rows a r n o) ≡ Good
    → (result_unwrap_or (decided a r n o) r).generation ≡ cond (raises a r n o) (next_generation r.generation) r.generation
unfolding decided
decided_good a r n o e = ap (λ (x : Result Rights Answer). (result_unwrap_or x r).generation) (if_good_law _ (Ok (acted a r n o)) _ e) ∙ acted_generation a r n o

pub decided_refused : (a : Action) (r : Rights) (n : ℕ) (o : Parameters) → T (refuses (first (decision_rows a r n o)))
    → result_unwrap_or (decided a r n o) r ≡ r
unfolding decided
decided_refused a r n o t = ap (λ (x : Result Rights Answer). result_unwrap_or x r) (if_refused _ (Ok (acted a r n o)) _ t)
