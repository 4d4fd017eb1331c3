-- Demand 2, proved of `step`; a promise of it admits no second outcome; and a build that meets it meets the other two.
-- Assumes nothing.
use mathlib.Core.Path.{◌≡◌, refl, sym, ◌∙◌, subst, fun_ext}
use mathlib.Core.List.{List}
use Prim.Native.Nat.{ℕ}
use Rattle.store.specs.Store.{Store, Call, Result}
use Rattle.store.specs.Step.{step}
use Rattle.store.specs.Fresh.{FreshResult, fresh}
use Rattle.reply.specs.declared.Outcome.{Outcome}
use Rattle.reply.specs.Contract.{left}
use Rattle.commands.proofs.Only.{execute_only}
use Rattle.ridge.specs.Interface.{roomed, leaves_room}
use Rattle.ridge.proofs.Only.{ridge_room_only}
use Rattle.demands.specs.History.{Build, machine}
use Rattle.demands.specs.Demands.{Demand1, Demand2, Demand3, Secrecy}
use Rattle.demands.specs.Contents.{plain}
use Rattle.demands.proofs.CasesPass.{cases_pass}
use Rattle.demands.proofs.Generation.{generation_rises, generation_stays, generation_refused}
use Rattle.demands.proofs.Demand1.{demand_1}
use Rattle.demands.proofs.Demand3.{secrecy, demand_3}

pub demand_2 : Demand2 step
demand_2 = record {
  exact = λ s c. refl;
  bench = cases_pass;
  generation_rises = generation_rises;
  generation_stays = generation_stays;
  generation_refused = generation_refused;
}

-- ---- "show that no second outcome satisfies it"

-- whatever is promised by an equation with `step` is promised once
pub once : (s : Store) (c : Call) (o o' : Result) → o ≡ step s c → o' ≡ step s c → o ≡ o'
once s c o o' e e' = e ∙ sym e'

pub fresh_once : (capacity format : ℕ) (owners marks : List ℕ) (o o' : FreshResult) → o ≡ fresh capacity format owners marks
    → o' ≡ fresh capacity format owners marks → o ≡ o'
fresh_once capacity format owners marks o o' e e' = e ∙ sym e'

-- the promise of `execute` itself, by which nothing that it leaves could be otherwise
pub execute_once : (s : Store) (c : Call) (r q : Outcome) (owners owners' marks marks' medium medium' data_in dataIn' sense sense' : List ℕ)
    → left s.format r owners marks medium data_in sense ≡ step s c → left s.format q owners' marks' medium' dataIn' sense' ≡ step s c → r ≡ q
execute_once s c r q owners owners' marks marks' medium medium' data_in dataIn' sense sense' e h =
    (execute_only s.format s c r q owners owners' marks marks' medium medium' data_in dataIn' sense sense' e h).0

-- and that of `ridge_room`
pub room_once : (s : Store) (before lower answer answer' free free' lowest lowest' : ℕ) → leaves_room answer free lowest ≡ roomed s before lower
    → leaves_room answer' free' lowest' ≡ roomed s before lower → (answer ≡ answer') × (free ≡ free') × (lowest ≡ lowest')
room_once s before lower answer answer' free free' lowest lowest' e h = ridge_room_only s before lower answer answer' free free' lowest lowest' e h

-- ---- what holds of `step` holds of every build that is exact

-- there is one such build
pub exact_one : (f : Build) → ((s : Store) (c : Call) → f s c ≡ step s c) → f ≡ step
exact_one f e = fun_ext (λ s. fun_ext (λ c. e s c))

pub exact_meets_1 : (f : Build) → ((s : Store) (c : Call) → f s c ≡ step s c) → Demand1 f
exact_meets_1 f e = subst Demand1 (sym (exact_one f e)) demand_1

pub exact_meets_2 : (f : Build) → ((s : Store) (c : Call) → f s c ≡ step s c) → Demand2 f
exact_meets_2 f e = subst Demand2 (sym (exact_one f e)) demand_2

pub exact_meets_secrecy : (f : Build) → ((s : Store) (c : Call) → f s c ≡ step s c) → Secrecy (machine f) plain
exact_meets_secrecy f e = subst (λ (g : Build). Secrecy (machine g) plain) (sym (exact_one f e)) secrecy

pub exact_meets_3 : (f : Build) → ((s : Store) (c : Call) → f s c ≡ step s c) → Demand3 f
exact_meets_3 f e = subst Demand3 (sym (exact_one f e)) demand_3
