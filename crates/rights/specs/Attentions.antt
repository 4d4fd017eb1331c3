-- Unit attentions: what can wait for a nexus, until its next command returns it.
-- Assumes nothing.
use Rattle.std.specs.Prelude.{Bool, true, ◌&&◌, cond, List, [], ◌∷◌, ℕ, eqb, leb, length, get_or, set}
use Rattle.fields.specs.Bytes.{zeros}
use Rattle.answers.specs.declared.Refusal.{Refusal}
use Rattle.answers.specs.declared.Refusal.TheVariants.{RegistrationsPreempted, ReservationsPreempted, ReservationsReleased}
use Rattle.rights.specs.Bounds.{nexuses}

-- ---- what can wait

abbrev pub no_attention : ℕ
no_attention = 0

-- Q-6: "2A/05 registrations preempted"
abbrev pub registrations_preempted : ℕ
registrations_preempted = 1

-- "2A/03 reservations preempted"
abbrev pub reservations_preempted : ℕ
reservations_preempted = 2

-- "2A/04 reservations released"
abbrev pub reservations_released : ℕ
reservations_released = 3

-- how each is returned; where nothing waits, nobody asks
unfoldable pub refusal_of : ℕ → Refusal
refusal_of waiting =
    cond (eqb waiting registrations_preempted) RegistrationsPreempted
    (cond (eqb waiting reservations_preempted) ReservationsPreempted ReservationsReleased)

-- ---- "one waiting attention for each of the 16 nexuses": a list of them by nexus, from 0 on

unfoldable pub each_ok : List ℕ → Bool
each_ok [] = true
each_ok (x ∷ xs) = leb x reservations_released && each_ok xs

-- valid: any nexus may have one waiting, registered or not
unfoldable pub attentions_ok : List ℕ → Bool
attentions_ok xs = eqb (length xs) nexuses && each_ok xs

-- "none when fresh"
unfoldable pub no_attentions : List ℕ
no_attentions = zeros nexuses

-- what waits for the nexus n
unfoldable pub waiting_for : ℕ → List ℕ → ℕ
waiting_for n xs = get_or xs n no_attention

-- "and clears it": the attentions once that of the nexus n was returned
unfoldable pub returned_to : ℕ → List ℕ → List ℕ
returned_to n xs = set xs n no_attention
