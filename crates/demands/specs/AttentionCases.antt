-- Cases of unit attentions, each byte of which is written out.
-- Assumes nothing.
use Rattle.std.specs.Prelude.{List, [], ◌∷◌, ◌++◌, ℕ, set}
use Rattle.fields.specs.Bytes.{zeros}
use Rattle.answers.specs.Sense.{descriptor}
use Rattle.rights.specs.Places.{unused}
use Rattle.store.specs.Store.{Store, Call, with_attentions, with_unit}
use Rattle.demands.specs.Checker.{good, refused, attention_told, conflicts, no_status, Case, ◌gives◌}
use Rattle.demands.specs.Bench.{block, new, at, places, two, made, call, lent, ready, read_10, write_10, out}
use Rattle.demands.specs.Cases.{case_of, case_still}
use Rattle.demands.specs.FurtherCases.{wrong_naca6, wrong_page}
use Rattle.demands.specs.SenseCases.{head_told, in_format}

-- ---- words

-- the store, where this waits for the nexus n
unfoldable pub left_waiting : ℕ → ℕ → Store → Store
left_waiting n code s = with_unit s (with_attentions s.unit (set s.unit.attentions n code))

-- INQUIRY for its first four bytes, and one with a page code and no bit 0
unfoldable pub inquiry : ℕ → Call
inquiry n = call n (0x12 ∷ 0 ∷ 0 ∷ 0 ∷ 4 ∷ 0 ∷ []) []

unfoldable pub inquiry_wrong : ℕ → Call
inquiry_wrong n = call n (0x12 ∷ 0 ∷ 1 ∷ 0 ∷ 4 ∷ 0 ∷ []) []

-- ---- the cases

-- a logger is preempted; INQUIRY, good or not, a code that is not listed and a CDB of another length keep it waiting; its next command is told, and not done;
-- the one behind it is served
unfoldable pub case_learns : Case
case_learns =
    case_of (new 8)
    (out 1 0 0 0 0x11 gives good []
    ∷ out 2 0 0 0 0x22 gives good []
    ∷ out 2 4 1 0x22 0x11 gives good []
    ∷ inquiry 1 gives good (0x00 ∷ 0x00 ∷ 0x06 ∷ 0x02 ∷ [])
    ∷ inquiry_wrong 1 gives wrong_page
    ∷ call 1 (0xFF ∷ zeros 5) [] gives refused 1 0x05 0x20 0x00
    ∷ call 1 (zeros 7) [] gives no_status 11
    ∷ lent 76 17 1 (zeros 6) [] gives no_status 11
    ∷ ready 2 gives good []
    ∷ write_10 1 0 1 (block 0xB0) gives attention_told 0x05
    ∷ read_10 1 0 1 gives good (zeros 512) ∷ [])
    (made (0 ∷ 0 ∷ []) (places (unused ∷ at 2 0x22 ∷ [])) 0 0 3)

-- what waits comes before a wrong field, a conflict, short buffers and what is wrong with keys; the call is not done, and the state stays but for it
unfoldable pub case_first : Case
case_first =
    case_of
    (left_waiting 3 3 (left_waiting 4 1 (left_waiting 5 2 (made (1 ∷ 0 ∷ []) two 3 1 0))))
    (call 3 (zeros 5 ++ (4 ∷ [])) [] gives attention_told 0x04
    ∷ call 3 (zeros 5 ++ (4 ∷ [])) [] gives wrong_naca6
    ∷ read_10 4 0 1 gives attention_told 0x05
    ∷ read_10 4 0 1 gives conflicts
    ∷ lent 0 20 5 (0x25 ∷ zeros 9) [] gives attention_told 0x03
    ∷ lent 0 20 5 (0x25 ∷ zeros 9) [] gives no_status 12 ∷ [])
    (made (1 ∷ 0 ∷ []) two 3 1 0)

-- CLEAR tells all others that are registered, with or without a reservation, and replaces what waited; the sender, and who is not registered, is told nothing
unfoldable pub case_clear : Case
case_clear =
    case_of (left_waiting 2 3 (left_waiting 9 1 (made (0 ∷ 0 ∷ []) (places (at 1 0x11 ∷ at 2 0x22 ∷ at 15 0xFF ∷ [])) 5 1 0)))
    (out 1 3 0 0x11 0 gives good []
    ∷ ready 1 gives good []
    ∷ ready 2 gives attention_told 0x03
    ∷ ready 15 gives attention_told 0x03
    ∷ ready 15 gives good []
    ∷ ready 0 gives good [] ∷ [])
    (left_waiting 9 1 (made (0 ∷ 0 ∷ []) (places []) 0 0 1))

-- RELEASE tells those for whom the reservation was, under 5 to 8
unfoldable pub case_release : Case
case_release =
    case_of (made (0 ∷ 0 ∷ []) two 0 0 0)
    (out 1 1 1 0x11 0 gives good []
    ∷ out 1 2 1 0x11 0 gives good []
    ∷ ready 2 gives good []
    ∷ out 1 1 3 0x11 0 gives good []
    ∷ out 1 2 3 0x11 0 gives good []
    ∷ ready 2 gives good []
    ∷ out 1 1 6 0x11 0 gives good []
    ∷ out 2 2 6 0x22 0 gives good []
    ∷ ready 1 gives good []
    ∷ out 1 2 6 0x11 0 gives good []
    ∷ ready 2 gives attention_told 0x04
    ∷ out 1 1 8 0x11 0 gives good []
    ∷ out 2 2 8 0x22 0 gives good []
    ∷ ready 2 gives good []
    ∷ ready 1 gives attention_told 0x04
    ∷ ready 3 gives good [] ∷ [])
    (made (0 ∷ 0 ∷ []) two 0 0 0)

-- so does the holder that unregisters, by 0 or by 6, under 5 and 6; another's unregistering tells nobody, and under 1 and 3 nobody is told
unfoldable pub case_unregister : Case
case_unregister =
    case_of (made (0 ∷ 0 ∷ []) (places (at 1 0x11 ∷ at 2 0x22 ∷ at 3 0x33 ∷ [])) 5 1 0)
    (out 3 0 0 0x33 0 gives good []
    ∷ ready 1 gives good []
    ∷ out 1 0 0 0x11 0 gives good []
    ∷ ready 2 gives attention_told 0x04
    ∷ ready 3 gives good []
    ∷ out 1 0 0 0 0x11 gives good []
    ∷ out 2 1 6 0x22 0 gives good []
    ∷ out 2 6 0 0 0 gives good []
    ∷ ready 1 gives attention_told 0x04
    ∷ out 2 6 0 0 0x22 gives good []
    ∷ out 2 1 3 0x22 0 gives good []
    ∷ out 2 0 0 0x22 0 gives good []
    ∷ ready 1 gives good [] ∷ [])
    (made (0 ∷ 0 ∷ []) (places (at 1 0x11 ∷ [])) 0 0 6)

-- PREEMPT tells those that it removes, the holder too; those that stay are told where it changes the type of a reservation of 5 to 8, also its own holder's,
-- and not where it names the same
unfoldable pub case_preempt : Case
case_preempt =
    case_of (made (0 ∷ 0 ∷ []) (places (at 1 0x11 ∷ at 2 0x22 ∷ at 3 0x33 ∷ at 4 0x44 ∷ [])) 5 1 0)
    (out 2 4 5 0x22 0x11 gives good []
    ∷ ready 3 gives good []
    ∷ ready 1 gives attention_told 0x05
    ∷ out 2 4 6 0x22 0x22 gives good []
    ∷ ready 2 gives good []
    ∷ out 4 4 1 0x44 0x33 gives attention_told 0x04
    ∷ out 4 4 1 0x44 0x33 gives good []
    ∷ ready 3 gives attention_told 0x05
    ∷ out 4 4 1 0x44 0x22 gives good []
    ∷ ready 2 gives attention_told 0x05
    ∷ ready 3 gives good [] ∷ [])
    (made (0 ∷ 0 ∷ []) (places (unused ∷ unused ∷ unused ∷ at 4 0x44 ∷ [])) 1 4 4)

-- in descriptor format the 8 header bytes alone
unfoldable pub case_attention_described : Case
case_attention_described =
    case_of (in_format descriptor (left_waiting 7 2 (new 8)))
    (ready 7 gives head_told 13 0x06 0x2A 0x03 ∷ ready 7 gives good [] ∷ [])
    (in_format descriptor (new 8))

-- a number that is none of them is part of no valid state
unfoldable pub case_four : Case
case_four = case_still (left_waiting 15 4 (new 8)) (ready 0 gives no_status 11 ∷ inquiry 15 gives no_status 11 ∷ [])

unfoldable pub case_many : Case
case_many = case_still (left_waiting 0 255 (new 8)) (ready 0 gives no_status 11 ∷ [])

unfoldable pub attention_cases : List Case
attention_cases =
    case_learns ∷ case_first ∷ case_clear ∷ case_release ∷ case_unregister ∷ case_preempt ∷ case_attention_described ∷ case_four ∷ case_many ∷ []
