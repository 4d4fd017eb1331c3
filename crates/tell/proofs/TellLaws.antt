-- Commands that tell, by the ways through their rows.
-- Assumes nothing.
use mathlib.Core.Path.{◌≡◌, refl, sym, ap, ◌∙◌}
use mathlib.Core.Logic.{◌≢◌}
use mathlib.Core.List.{List, []}
use Prim.Native.Nat.{ℕ, zero, suc}
use lib.ListN.{take}
use borrow.Author.Tests.{ne_eqb}
use Rattle.fields.specs.Field.{bytes}
use Rattle.rights.specs.Told.{keys_data, reservation_data}
use Rattle.forms.specs.declared.Tell.{Tell}
use Rattle.forms.specs.declared.Tell.TheVariants.{Ready, Inquiry, VitalData, Capacity10, Capacity16, Keys, Reservation}
use Rattle.forms.specs.declared.Request.{Request}
use Rattle.store.specs.declared.Unit.{Unit}
use Rattle.store.specs.Vital.{pages_page, limits_page, provisioning_page, vital_data}
use Rattle.store.specs.Tell.{inquiry_data, capacity10_data, capacity16_data, told, tell_rows}
use Rattle.reply.specs.Cut.{gives}
use Rattle.tell.specs.Telling.{tells, tells_page}

-- ---- what is told is what is there, cut

pub take_none : (n : ℕ) → take {A = ℕ} n [] ≡ []
take_none zero = refl
take_none (suc n) = refl

pub told_ready : (q : Request) (u : Unit) → told Ready q u ≡ take q.size []
unfolding told
told_ready q u = sym (take_none q.size)

pub told_inquiry : (q : Request) (u : Unit) → told Inquiry q u ≡ take q.size inquiry_data
unfolding told
told_inquiry q u = refl

pub told_vital : (q : Request) (u : Unit) → told VitalData q u ≡ take q.size (vital_data q.page)
unfolding told
told_vital q u = refl

pub told_capacity10 : (q : Request) (u : Unit) → told Capacity10 q u ≡ take 8 (capacity10_data u.capacity)
unfolding told capacity10_data bytes
told_capacity10 q u = refl

pub told_capacity16 : (q : Request) (u : Unit) → told Capacity16 q u ≡ take q.size (capacity16_data u.capacity)
unfolding told
told_capacity16 q u = refl

pub told_keys : (q : Request) (u : Unit) → told Keys q u ≡ take q.size (keys_data u.rights)
unfolding told
told_keys q u = refl

pub told_reservation : (q : Request) (u : Unit) → told Reservation q u ≡ take q.size (reservation_data u.rights)
unfolding told
told_reservation q u = refl

pub tells_is : (t : Tell) (q : Request) (u : Unit) (data_in : List ℕ) → tells t q u data_in ≡ gives (told t q u) data_in
unfolding tell_rows
tells_is t q u data_in = refl

pub tells_vital : (q : Request) (u : Unit) (data_in : List ℕ) → tells VitalData q u data_in ≡ tells_page q.page q.size data_in
unfolding tells_page
tells_vital q u data_in = tells_is VitalData q u data_in ∙ ap (λ (bs : List ℕ). gives bs data_in) (told_vital q u)

-- what is told, by the command
pub ruleset laws = (told_ready, told_inquiry, told_capacity10, told_capacity16, told_keys, told_reservation, tells_is, tells_vital, take_none)

-- ---- a page of vital product data

module _ (code : ℕ) where
  pub page_00 : code ≡ 0x00 → vital_data code ≡ pages_page
  unfolding vital_data
  page_00 e = rw e

  pub page_b0 : code ≡ 0xB0 → vital_data code ≡ limits_page
  unfolding vital_data
  page_b0 e = rw e

  pub page_b2 : code ≡ 0xB2 → vital_data code ≡ provisioning_page
  unfolding vital_data
  page_b2 e = rw e

  pub page_none : code ≢ 0x00 → code ≢ 0xB0 → code ≢ 0xB2 → vital_data code ≡ []
  unfolding vital_data
  page_none a b c = simp (ne_eqb _ _ a, ne_eqb _ _ b, ne_eqb _ _ c)
