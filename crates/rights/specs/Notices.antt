-- Notices: for whom an action has an attention wait, and which. They are read off the rights that the action found and those that it left, so that
-- what an action does is said elsewhere, and once. Assumes nothing.
use Rattle.std.specs.Prelude.{Bool, not, ◌&&◌, ◌||◌, cond, List, [], ◌∷◌, ℕ, suc, eqb}
use Rattle.rights.specs.declared.Rights.{Rights}
use Rattle.rights.specs.declared.Action.{Action}
use Rattle.rights.specs.declared.Action.TheVariants.{Register, Reserve, Release, Clear, Preempt, RegisterIgnoring}
use Rattle.rights.specs.Places.{registered}
use Rattle.rights.specs.Rights.{is_one_of}
use Rattle.rights.specs.Attentions.{no_attention, registrations_preempted, reservations_preempted, reservations_released}

-- is the registration of the nexus m removed
unfoldable pub removed : Rights → Rights → ℕ → Bool
removed before after m = registered m before.places && not (registered m after.places)

-- Q-6: "a reservation of type 5 to 8"
unfoldable pub for_registrants : ℕ → Bool
for_registrants kind = is_one_of kind (5 ∷ 6 ∷ 7 ∷ 8 ∷ [])

-- "ends a reservation of type 5 to 8, or … changes its type": it was of such a type, and is so no longer
unfoldable pub released : Rights → Rights → Bool
released before after = for_registrants before.kind && not (eqb after.kind before.kind)

-- "2A/04 reservations released, for registered others when …"
unfoldable pub release_notice : Rights → Rights → ℕ → ℕ
release_notice before after m = cond (released before after && registered m after.places) reservations_released no_attention

-- what the nexus m is to be told of another's action
unfoldable pub notice : Action → Rights → Rights → ℕ → ℕ
-- "or the holder's own unregistering ends"
notice Register before after m = release_notice before after m
notice RegisterIgnoring before after m = release_notice before after m
notice Reserve before after m = no_attention
-- "when RELEASE … ends"
notice Release before after m = release_notice before after m
-- "2A/03 reservations preempted, for another's removed by CLEAR"
notice Clear before after m = cond (removed before after m) reservations_preempted no_attention
-- "2A/05 registrations preempted, for another's registration removed by PREEMPT", "or PREEMPT changes its type"
notice Preempt before after m = cond (removed before after m) registrations_preempted (release_notice before after m)

-- "another's", "others": the sender n is told nothing; "A new one replaces an old one."
unfoldable pub renewed : Action → Rights → Rights → ℕ → ℕ → ℕ → ℕ
renewed a before after n m old = cond (eqb m n || eqb (notice a before after m) no_attention) old (notice a before after m)

-- what waits after the action, from the nexus m on
unfoldable pub notified_from : Action → Rights → Rights → ℕ → ℕ → List ℕ → List ℕ
notified_from a before after n m [] = []
notified_from a before after n m (old ∷ rest) = renewed a before after n m old ∷ notified_from a before after n (suc m) rest

unfoldable pub notified : Action → Rights → Rights → ℕ → List ℕ → List ℕ
notified a before after n xs = notified_from a before after n 0 xs
