-- What the commands that tell return: of any build, so that wrong ones can be put in; proofs/Telling proves it of `step`.
-- Assumes nothing.
use Rattle.std.specs.Prelude.{◌≡◌, ◌≢◌, [], take}
use Rattle.answers.specs.declared.Answer.TheVariants.{Good}
use Rattle.answers.specs.Answers.{number_of}
use Rattle.forms.specs.declared.Tell.{Tell}
use Rattle.forms.specs.declared.Tell.TheVariants.{Ready, Inquiry, VitalData, Capacity10, Capacity16}
use Rattle.forms.specs.declared.Command.TheVariants.{Tells}
use Rattle.forms.specs.Forms.{allocation_in}
use Rattle.store.specs.Store.{Store, Call, seen_of}
use Rattle.store.specs.Vital.{vital_data}
use Rattle.store.specs.Tell.{inquiry_data, capacity10_data, capacity16_data}
use Rattle.demands.specs.History.{Build, after}
use Rattle.demands.specs.Contents.{AsksFor}
use Rattle.demands.specs.Reservations.{GoodBy}

-- READ KEYS and READ RESERVATION are among the laws of reservations
pub record Telling (f : Build) : Type 0 where
  pub ready : (s : Store) (c : Call) → AsksFor (Tells Ready) c → GoodBy f s c → (f s c).seen ≡ seen_of s.format Good [] c
  -- "the returned bytes are the first min(allocation length, available)"
  pub inquiry : (s : Store) (c : Call) (a : AsksFor (Tells Inquiry) c) → GoodBy f s c
      → (f s c).seen ≡ seen_of s.format Good (take (allocation_in a.request) inquiry_data) c
  -- "Serve INQUIRY pages 00h, B0h (block limits) and B2h (logical block provisioning)"
  pub vital : (s : Store) (c : Call) (a : AsksFor (Tells VitalData) c) → GoodBy f s c
      → (f s c).seen ≡ seen_of s.format Good (take (allocation_in a.request) (vital_data a.request.page)) c
  -- "All 8 bytes return."
  pub capacity_10 : (s : Store) (c : Call) → AsksFor (Tells Capacity10) c → GoodBy f s c
      → (f s c).seen ≡ seen_of s.format Good (capacity10_data s.unit.capacity) c
  pub capacity_16 : (s : Store) (c : Call) (a : AsksFor (Tells Capacity16) c) → GoodBy f s c
      → (f s c).seen ≡ seen_of s.format Good (take (allocation_in a.request) (capacity16_data s.unit.capacity)) c
  -- and nothing stored changes, unless the call only told what waited
  pub leaves : (t : Tell) (s : Store) (c : Call) → AsksFor (Tells t) c → number_of (f s c).seen.answer ≢ 13 → after f s c ≡ s
