-- The six actions of PERSISTENT RESERVE OUT: when each is refused, and what it changes.
-- Assumes nothing.
use Rattle.std.specs.Prelude.{Bool, false, not, ◌&&◌, ◌||◌, cond, List, [], ◌∷◌, ◌++◌, map, ℕ, eqb, Result, Ok, Err}
use Rattle.fields.specs.Field.{bit}
use Rattle.fields.specs.Bits.{Bits, within, whole}
use Rattle.answers.specs.declared.Answer.{Answer}
use Rattle.answers.specs.declared.Answer.TheVariants.{Conflict}
use Rattle.answers.specs.Answers.{list_field, no_place, other_type}
use Rattle.answers.specs.Order.{Row, ◌if◌, first, if_good}
use Rattle.rights.specs.declared.Rights.{Rights}
use Rattle.rights.specs.declared.Action.{Action}
use Rattle.rights.specs.declared.Action.TheVariants.{Register, Reserve, Release, Clear, Preempt, RegisterIgnoring}
use Rattle.rights.specs.declared.Parameters.{Parameters}
use Rattle.rights.specs.Places.{unused, registered, key_of, vacant, known, enrol, rekeyed, without, nobody, sender, alone}
use Rattle.rights.specs.Rights.{all_hold, holds, held, holder_key, ended, with_places, settled, raised}

-- ---- refusals

-- "List: key 0-7, service action key 8-15, byte 20 bits 3, 2, 0": what of it can be wrong
abbrev pub service_key_bits : Bits
service_key_bits = whole 8 8

abbrev pub flags_byte : ℕ
flags_byte = 20

-- Q-4: "The field is the first one wrong …, then highest bit": a flag that is set names itself
abbrev pub flag_row : ℕ → Parameters → Row
flag_row k o = list_field (within flags_byte k 1) if bit k o.flags

-- a row for each flag that registering refuses
unfoldable pub register_flags : Parameters → List Row
register_flags o = flag_row 3 o ∷ flag_row 2 o ∷ flag_row 0 o ∷ []

-- "byte 20 bits 3, 2, 0 any set in actions 0 and 6: 5"
unfoldable pub flag_rows : Action → Parameters → List Row
flag_rows Register o = register_flags o
flag_rows Reserve o = []
flag_rows Release o = []
flag_rows Clear o = []
flag_rows Preempt o = []
flag_rows RegisterIgnoring o = register_flags o

-- "sender unregistered or key wrong"
unfoldable pub stranger : Rights → ℕ → Parameters → Bool
stranger r n o = not (registered n r.places) || not (eqb o.key (key_of n r.places))

-- "REGISTER: a registered nexus must give its key, an unregistered one 0, else 10. … Action 6 is the same without the key test."
-- "Others: sender unregistered or key wrong gives 10."
unfoldable pub key_wrong : Action → Rights → ℕ → Parameters → Bool
key_wrong Register r n o = not (eqb o.key (key_of n r.places))
key_wrong Reserve r n o = stranger r n o
key_wrong Release r n o = stranger r n o
key_wrong Clear r n o = stranger r n o
key_wrong Preempt r n o = stranger r n o
key_wrong RegisterIgnoring r n o = false

-- a nexus that has no place and wants one: "new registration, all 8 places used"
unfoldable pub crowded : Rights → ℕ → Parameters → Bool
crowded r n o = not (registered n r.places) && not (eqb o.service 0) && not (vacant r.places)

-- the action's own
unfoldable pub action_rows : Action → Rights → ℕ → Parameters → List Row
action_rows Register r n o = no_place if crowded r n o ∷ []
-- "with none, made. By a holder with the same type, no change. Else 10."
action_rows Reserve r n o = Conflict if (not (eqb r.kind 0) && not (holds r n && eqb r.kind o.kind)) ∷ []
-- "by a holder with the same type, ends it; another type, 7."
action_rows Release r n o = other_type if (holds r n && not (eqb r.kind o.kind)) ∷ []
action_rows Clear r n o = []
-- "service action key 0 gives 5; a key nobody has gives 10.", but by Q-3 "5 stays for a zero key with no reservation or types 1, 3, 5, 6"
action_rows Preempt r n o =
    list_field service_key_bits if (eqb o.service 0 && not (all_hold r.kind))
    ∷ Conflict if (not (eqb o.service 0) && not (known o.service r.places))
    ∷ []
action_rows RegisterIgnoring r n o = no_place if crowded r n o ∷ []

-- "5 for flags; 10 for keys; then the action's own"
unfoldable pub decision_rows : Action → Rights → ℕ → Parameters → List Row
decision_rows a r n o = flag_rows a o ++ (Conflict if key_wrong a r n o ∷ action_rows a r n o)

-- ---- changes, where nothing refuses

-- "Service action key nonzero registers (lowest free place) or changes the key; 0 unregisters or does nothing."
-- "save where an unregistered nexus sends service action key 0 …: that changes nothing"
unfoldable pub registering : Rights → ℕ → ℕ → Rights
registering r n k =
    cond (registered n r.places)
    (raised (settled (with_places r (map (rekeyed n k) r.places))))
    (cond (eqb k 0) r (raised (with_places r (enrol n k r.places))))

-- "with none, made. By a holder with the same type, no change."
unfoldable pub reserving : Rights → ℕ → ℕ → Rights
reserving r n kind = cond (eqb r.kind 0) (held r kind n) r

-- "by a holder with the same type, ends it; … No reservation or not a holder: GOOD, nothing."
unfoldable pub releasing : Rights → ℕ → Rights
releasing r n = cond (holds r n) (ended r) r

-- "ends the reservation and all registrations"
unfoldable pub clearing : Rights → Rights
clearing r = raised (ended (with_places r (map (λ p. unused) r.places)))

-- "If it is the holder's key under 1, 3, 5, 6": k is not 0, and `holder_key` is 0 where no one nexus holds
-- "all with that key but the sender are removed and the sender holds the type named. Else all with that key are removed, the sender too."
unfoldable pub preempting : Rights → ℕ → ℕ → ℕ → Rights
preempting r n kind k =
    cond (eqb (holder_key r) k)
    (raised (held (with_places r (map (without (sender n) k) r.places)) kind n))
    (raised (settled (with_places r (map (without nobody k) r.places))))

-- Q-3: "under types 7 and 8 a zero key removes every other registration, ends the reservation, and gives the sender the type named."
unfoldable pub taking_over : Rights → ℕ → ℕ → Rights
taking_over r n kind = raised (held (with_places r (map (alone n) r.places)) kind n)

unfoldable pub acted : Action → Rights → ℕ → Parameters → Rights
acted Register r n o = registering r n o.service
acted Reserve r n o = reserving r n o.kind
acted Release r n o = releasing r n
acted Clear r n o = clearing r
acted Preempt r n o = cond (eqb o.service 0) (taking_over r n o.kind) (preempting r n o.kind o.service)
acted RegisterIgnoring r n o = registering r n o.service

-- a refusal, or what is made where nothing refuses
abbrev pub unless_refused : {A : Type 0} → Answer → A → Result A Answer
unless_refused answer made = if_good answer (Ok made) (Err answer)

-- what an action decides: the first row that refuses, or the rights that it makes
unfoldable pub decided : Action → Rights → ℕ → Parameters → Result Rights Answer
decided a r n o = unless_refused (first (decision_rows a r n o)) (acted a r n o)
