-- The conflict table: it says what the rule says, of every rights, nexus and command.
-- Assumes nothing.
use mathlib.Core.Path.{◌≡◌, refl, sym, ◌∙◌, subst, subst⁻¹}
use mathlib.Core.Bool.{Bool, true, false, not, ◌&&◌, ◌||◌, cond, and-false, and-true, or-true}
use mathlib.Core.List.{[], ◌∷◌}
use Prim.Native.Nat.{ℕ, ◌<◌}
use borrow.Author.Tests.{ne_eqb}
use lib.Dec.{T, T_not, eqb, ltb, ltb→lt}
use lib.ListN.{length}
use Rattle.std.specs.Prelude.{Some, None}
use Rattle.fields.proofs.Tests.{and_map, test, T_false, agree}
use Rattle.rights.specs.declared.Rights.{Rights}
use Rattle.rights.specs.declared.Action.{Action}
use Rattle.rights.specs.Places.{registered}
use Rattle.rights.specs.Rights.{is_one_of, is_type, one_holds, all_hold, holds}
use Rattle.rights.proofs.Types.{six_types, every, every_one, agrees_under, agree_under}
use Rattle.forms.specs.declared.Tell.{Tell}
use Rattle.forms.specs.declared.Tell.TheVariants.{Ready, Inquiry, VitalData, Capacity10, Capacity16, Keys, Reservation}
use Rattle.forms.specs.declared.Move.{Move}
use Rattle.forms.specs.declared.Move.TheVariants.{Read, Write, WriteSame, Unmap, Status}
use Rattle.forms.specs.declared.Command.{Command}
use Rattle.forms.specs.declared.Command.TheVariants.{Tells, Moves, Alters}
use Rattle.store.specs.Conflict.{Column, column_under, column_of, row, says, conflict, shut_out, passes, stops, ruled}

-- what holds of each row holds of every command
pub by_row : (P : Command → Type 0) → P (Moves Status) → P (Tells Inquiry) → P (Tells VitalData) → P (Tells Keys) → P (Tells Reservation)
    → ((a : Action) → P (Alters a)) → P (Moves Read) → P (Tells Capacity10) → P (Tells Capacity16) → P (Tells Ready) → P (Moves Unmap)
    → P (Moves Write) → P (Moves WriteSame) → (k : Command) → P k
by_row P s i v k r out read c10 c16 t u w ws (Moves Status) = s
by_row P s i v k r out read c10 c16 t u w ws (Tells Inquiry) = i
by_row P s i v k r out read c10 c16 t u w ws (Tells VitalData) = v
by_row P s i v k r out read c10 c16 t u w ws (Tells Keys) = k
by_row P s i v k r out read c10 c16 t u w ws (Tells Reservation) = r
by_row P s i v k r out read c10 c16 t u w ws (Alters a) = out a
by_row P s i v k r out read c10 c16 t u w ws (Moves Read) = read
by_row P s i v k r out read c10 c16 t u w ws (Tells Capacity10) = c10
by_row P s i v k r out read c10 c16 t u w ws (Tells Capacity16) = c16
by_row P s i v k r out read c10 c16 t u w ws (Tells Ready) = t
by_row P s i v k r out read c10 c16 t u w ws (Moves Unmap) = u
by_row P s i v k r out read c10 c16 t u w ws (Moves Write) = w
by_row P s i v k r out read c10 c16 t u w ws (Moves WriteSame) = ws

-- ---- the table and the rule, by the type, whether the holder field names the sender, and whether the sender is registered

unfoldable pub holds_by : ℕ → Bool → Bool → Bool
holds_by kind named known = (one_holds kind && named) || (all_hold kind && known)

unfoldable table_by : Command → ℕ → Bool → Bool → Bool
table_by k kind named known = says (cond (holds_by kind named known) None (column_under kind known)) (row k)

unfoldable pub rule_by : Command → ℕ → Bool → Bool → Bool
rule_by k kind named known = stops kind k && not (holds_by kind named known || (is_one_of kind (5 ∷ 6 ∷ []) && known))

-- ---- under the six types, by a test that is computed: every row, under every type, for every sender

row_agrees : (k : Command) → T (every (agrees_under (table_by k) (rule_by k)) six_types)
unfolding every agrees_under agree table_by rule_by holds_by is_one_of one_holds all_hold is_type stops column_under row says
row_agrees =
    by_row (λ k. T (every (agrees_under (table_by k) (rule_by k)) six_types)) tt tt tt tt tt (λ _. tt) tt tt tt tt tt tt tt

typed : (k : Command) (kind : ℕ) (named known : Bool) → T (is_type kind) → table_by k kind named known ≡ rule_by k kind named known
unfolding is_type
typed k kind named known t = agree_under (table_by k) (rule_by k) six_types (row_agrees k) kind named known t

-- ---- and where there is none of them, nothing is stopped

module _ (kind : ℕ) (none : T (not (is_type kind))) where
  other : (k : ℕ) → T (is_type k) → eqb kind k ≡ false
  other k t = ne_eqb kind k (λ e. T_not (is_type kind) none (subst (λ (x : ℕ). T (is_type x)) (sym e) t))

  no_column : (known : Bool) → column_under kind known ≡ None
  unfolding column_under is_type is_one_of
  no_column known = simp (other 1 tt, other 3 tt, other 5 tt, other 6 tt, other 7 tt, other 8 tt)

  none_stopped : (k : Command) → stops kind k ≡ false
  unfolding stops is_type is_one_of
  none_stopped (Tells t) = refl
  none_stopped (Moves Read) = simp (other 3 tt, other 6 tt, other 8 tt)
  none_stopped (Moves Write) = T_false (is_type kind) none
  none_stopped (Moves Unmap) = T_false (is_type kind) none
  none_stopped (Moves WriteSame) = T_false (is_type kind) none
  none_stopped (Moves Status) = simp (other 3 tt, other 6 tt, other 8 tt)
  none_stopped (Alters a) = refl

  untyped : (k : Command) (named known : Bool) → table_by k kind named known ≡ rule_by k kind named known
  unfolding table_by rule_by says
  untyped k named known = rw (no_column known, none_stopped k) (go (holds_by kind named known))
    where
      go : (b : Bool) → says (cond b None None) (row k) ≡ false
      go true = refl
      go false = refl

-- ---- the rule

pub table_rule : (r : Rights) (n : ℕ) (k : Command) → conflict r n k ≡ ruled r n k
unfolding conflict column_of ruled passes holds table_by rule_by holds_by
table_rule r n k =
    test (is_type r.kind) (typed k r.kind (eqb r.holder n) (registered n r.places))
    (λ t. untyped r.kind t k (eqb r.holder n) (registered n r.places))

-- ---- who asks for what

-- "All other commands pass."
module _ (r : Rights) (n : ℕ) where
  pub telling_passes : (t : Tell) → conflict r n (Tells t) ≡ false
  unfolding ruled stops
  telling_passes t = table_rule r n (Tells t)

  pub altering_passes : (a : Action) → conflict r n (Alters a) ≡ false
  unfolding ruled stops
  altering_passes a = table_rule r n (Alters a)

module _ (r : Rights) (n : ℕ) (k : Command) where
  -- "A holder is never blocked"
  pub holder_passes : holds r n ≡ true → conflict r n k ≡ false
  unfolding conflict column_of says
  holder_passes e = rw e

  -- "under 5 and 6 nor is a registered nexus"
  pub registrant_passes : is_one_of r.kind (5 ∷ 6 ∷ []) ≡ true → registered n r.places ≡ true → conflict r n k ≡ false
  unfolding ruled passes
  registrant_passes e h = table_rule r n k ∙ rw (e, h, or-true, and-false)

  -- "For all others"
  pub outsider_stopped : holds r n ≡ false → registered n r.places ≡ false → conflict r n k ≡ stops r.kind k
  unfolding ruled passes
  outsider_stopped e h = table_rule r n k ∙ rw (e, h, and-false, and-true)

-- where READ conflicts, so does every command on the blocks
reads_least : (kind : ℕ) (m : Move) → T (stops kind (Moves Read)) → T (stops kind (Moves m))
unfolding stops every is_type is_one_of
reads_least kind Read t = t
reads_least kind Write t = every_one is_type kind (3 ∷ 6 ∷ 8 ∷ []) tt t
reads_least kind Unmap t = every_one is_type kind (3 ∷ 6 ∷ 8 ∷ []) tt t
reads_least kind WriteSame t = every_one is_type kind (3 ∷ 6 ∷ 8 ∷ []) tt t
reads_least kind Status t = t

pub shut_moves : (r : Rights) (n : ℕ) (m : Move) → T (shut_out r n) → T (conflict r n (Moves m))
unfolding shut_out ruled
shut_moves r n m t =
    subst⁻¹ (λ (b : Bool). T b) (table_rule r n (Moves m))
    (and_map (stops r.kind (Moves Read)) (stops r.kind (Moves m)) (not (passes r n)) (not (passes r n)) (reads_least r.kind m) (λ h. h)
    (subst (λ (b : Bool). T b) (table_rule r n (Moves Read)) t))

-- ---- the columns are five, and so are the cells of each row

unfoldable inside : Column → Bool
inside None = true
inside (Some column) = ltb column 5

either : (b : Bool) (x y : Column) → T (inside x) → T (inside y) → T (inside (cond b x y))
either true x y s t = s
either false x y s t = t

column_inside : (r : Rights) (n : ℕ) → T (inside (column_of r n))
unfolding column_of column_under inside
column_inside r n = either (holds r n) _ _ tt
    (either (eqb r.kind 1) _ _ tt (either (eqb r.kind 3) _ _ tt
    (either (is_one_of r.kind (5 ∷ 7 ∷ [])) _ _ (either (registered n r.places) _ _ tt tt)
    (either (is_one_of r.kind (6 ∷ 8 ∷ [])) _ _ (either (registered n r.places) _ _ tt tt) tt))))

pub column_listed : (r : Rights) (n column : ℕ) → column_of r n ≡ Some column → column < 5
unfolding inside
column_listed r n column e = ltb→lt column 5 (subst (λ (x : Column). T (inside x)) e (column_inside r n))

pub row_whole : (k : Command) → length (row k) ≡ 5
unfolding row
row_whole = by_row (λ k. length (row k) ≡ 5) refl refl refl refl refl (λ _. refl) refl refl refl refl refl refl refl
