-- Builds that are wrong in what they publish fail the laws of limits, by computation: a page that they return and a call that is not as it says, or a
-- page that they do not return.
-- Assumes nothing.
use mathlib.Core.Path.{◌≡◌, refl, sym, ap, ◌∙◌}
use mathlib.Core.Bool.{not}
use Prim.Native.Nat.{ℕ, ◌+◌, ◌≤◌}
use native.Mathlib.Omega.{arith}
use lib.Dec.{T, lit≤}
use lib.ListN.{length}
use Rattle.fields.specs.Field.{field}
use Rattle.answers.specs.Answers.{invalid_field, out_of_range, codes_of, number_of}
use Rattle.answers.specs.Sense.{fixed, sense_bytes}
use Rattle.rights.specs.Rights.{is_one_of}
use Rattle.forms.specs.declared.Move.TheVariants.{Read}
use Rattle.forms.specs.Forms.{count_in, page_bits}
use Rattle.store.specs.Store.{Store, Call, seen_of}
use Rattle.demands.specs.History.{Build}
use Rattle.demands.specs.Contents.{Asks, is_transfer, long_of, transfer_cdb, cdb10}
use Rattle.demands.specs.Reservations.{GoodBy}
use Rattle.demands.specs.Limits.{AsksPage, returned_by, Reads, page_codes, transfer_length, Heard, Fielded, Unprotected, Limits}
use Rattle.demands.specs.WrongBuilds.{laid, shown, showing}
use Rattle.demands.specs.WrongLimits.{is_for, understated, for_provisioning, unlisted_served, mute, asks_for, reads128}
use Rattle.demands.proofs.Computing.{meaning}

-- ---- pages and calls on the store shown

asked_page : (code n : ℕ) → AsksPage code (asks_for code n)
unfolding meaning showing asks_for
asked_page code n = record { inquiry = refl; vital = refl; page = refl }

module _ (f : Build) (code n : ℕ) where
  shown_read : GoodBy f shown (asks_for code n)
      → 4 + field 2 2 (returned_by f shown (asks_for code n)) ≤ length (returned_by f shown (asks_for code n))
      → Reads f code (returned_by f shown (asks_for code n))
  shown_read good whole =
      record { store = shown; call = asks_for code n; asks = asked_page code n; good = good; returned = refl; whole = whole }

shown_heard : (c : Call) → c.nexus ≤ 15 → sense_bytes fixed ≤ length c.sense → Heard shown c
unfolding meaning shown
shown_heard c h k = record { store = tt; nexus = h; sense = k }

page_fielded : (code n : ℕ) → Fielded shown (asks_for code n)
unfolding meaning shown showing asks_for long_of
page_fielded code n = record { heard = shown_heard (asks_for code n) (lit≤ tt) (lit≤ tt); long = refl; quiet = tt; naca = refl }

-- ---- page B0h says 127

limits_read : Reads understated 0xB0 (returned_by understated shown (asks_for 0xB0 64))
unfolding meaning shown showing asks_for is_for laid understated returned_by
limits_read = shown_read understated 0xB0 64 refl (lit≤ tt)

limit_told : transfer_length (returned_by understated shown (asks_for 0xB0 64)) ≡ 127
unfolding meaning shown showing asks_for is_for laid understated returned_by transfer_length
limit_told = refl

unfoldable read_asked : Asks Read reads128
unfolding meaning transfer_cdb cdb10 showing reads128
read_asked = record { request = _; is = refl; command = refl }

count_asked : count_in read_asked.request ≡ 128
unfolding meaning transfer_cdb cdb10 showing reads128 read_asked
count_asked = refl

read_fielded : Fielded shown reads128
unfolding meaning shown transfer_cdb cdb10 showing reads128 long_of
read_fielded = record { heard = shown_heard reads128 (lit≤ tt) (lit≤ tt); long = refl; quiet = tt; naca = refl }

read_unprotected : Unprotected reads128
unfolding meaning transfer_cdb cdb10 showing reads128
read_unprotected = refl

-- its count is not refused: the answer is that there are not so many blocks
count_passes : (understated shown reads128).seen.answer ≡ out_of_range 0
unfolding meaning shown transfer_cdb cdb10 showing reads128 is_for understated
count_passes = refl

pub understated_fails : Limits understated → ⊥
unfolding number_of codes_of is_transfer
understated_fails l =
    let law = (l.transfers _ limits_read Read tt shown reads128 read_asked read_fielded read_unprotected).1 (omega (arith, limit_told, count_asked)) in
    let same = sym (ap number_of count_passes) ∙ law in omega arith

-- ---- page B1h is served and not listed

pages_read : Reads unlisted_served 0x00 (returned_by unlisted_served shown (asks_for 0x00 7))
unfolding meaning shown showing asks_for is_for unlisted_served returned_by
pages_read = shown_read unlisted_served 0x00 7 refl (lit≤ tt)

not_listed : T (not (is_one_of 0xB1 (page_codes (returned_by unlisted_served shown (asks_for 0x00 7)))))
unfolding meaning shown showing asks_for is_for unlisted_served returned_by page_codes
not_listed = tt

page_served : GoodBy unlisted_served shown (asks_for 0xB1 8)
unfolding meaning shown showing asks_for is_for laid for_provisioning unlisted_served
page_served = refl

pub unlisted_served_fails : Limits unlisted_served → ⊥
unfolding number_of codes_of
unlisted_served_fails l =
    let law = (l.unlisted _ pages_read shown (asks_for 0xB1 8) 0xB1 (asked_page 0xB1 8) (page_fielded 0xB1 8)).1 not_listed in
    let same = sym (ap number_of page_served) ∙ law in omega arith

-- ---- no page is served

mute_refuses : (s : Store) (c : Call) (code : ℕ) → AsksPage code c → (mute s c).seen.answer ≡ invalid_field page_bits
unfolding mute seen_of
mute_refuses s c code a = rw (a.inquiry, a.vital)

enough : 64 ≤ field 3 2 (asks_for 0x00 64).cdb
unfolding meaning showing asks_for
enough = lit≤ tt

room : field 3 2 (asks_for 0x00 64).cdb ≤ length (asks_for 0x00 64).data_in
unfolding meaning showing asks_for
room = lit≤ tt

pub mute_fails : Limits mute → ⊥
unfolding number_of codes_of is_one_of
mute_fails l =
    let read = l.readable shown (asks_for 0x00 64) 0x00 tt (asked_page 0x00 64) (page_fielded 0x00 64) enough room in
    let same = ap number_of (sym (mute_refuses read.store read.call 0x00 read.asks) ∙ read.good) in omega arith
