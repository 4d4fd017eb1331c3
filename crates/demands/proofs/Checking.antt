-- The map's check, of whole stores: it passes the map of every usable store, and a call on a store whose map it does not pass gets 11.
-- Assumes nothing.
use mathlib.Core.Path.{◌≡◌}
use mathlib.Core.Logic.{◌≢◌}
use lib.Dec.{T, not_T}
use Rattle.answers.specs.declared.Answer.TheVariants.{Unusable}
use Rattle.std.specs.Prelude.{Ok}
use Rattle.pool.specs.Valid.{checked}
use Rattle.pool.proofs.Keeping.{pool_ok_map}
use Rattle.pool.proofs.Clashes.{valid_checked}
use Rattle.store.specs.Store.{Store, Call, usable}
use Rattle.store.specs.Step.{step}
use Rattle.demands.proofs.Usable.{usable_pool}
use Rattle.demands.proofs.Fresh.{unusable_eleven}

pub usable_checked : (s : Store) → T (usable s) → checked s.unit.capacity s.pool.owners ≡ Ok tt
usable_checked s u = valid_checked s.unit.capacity s.pool.owners (pool_ok_map s.unit.capacity s.pool (usable_pool s u))

-- a slot above the capacity, or two that name one block: every call gets 11, whatever else is wrong with it
pub clash_eleven : (s : Store) (c : Call) → checked s.unit.capacity s.pool.owners ≢ Ok tt → (step s c).seen.answer ≡ Unusable
clash_eleven s c d = unusable_eleven s c (not_T (usable s) (λ u. d (usable_checked s u)))
