-- Laws of the table of commands. Each rule of its rows is one test over all lines.
-- Assumes nothing.
use mathlib.Core.Path.{◌≡◌, refl, sym, subst}
use mathlib.Core.Bool.{Bool, true, false, not, ◌&&◌, ◌||◌, cond, true≢false}
use mathlib.Core.List.{List, [], ◌∷◌}
use Prim.Native.Nat.{ℕ}
use lib.Dec.{T, eqb, eqb→eq}
use Rattle.std.specs.Prelude.{Some, None}
use Rattle.fields.specs.Field.{byte, bit}
use Rattle.fields.proofs.Tests.{and_l, and_r, or_other, nand_rest, not_not, not_not_intro, not_map, true→T}
use Rattle.forms.specs.declared.Command.{Command}
use Rattle.forms.specs.declared.Command.TheVariants.{Tells, Moves, Alters}
use Rattle.forms.specs.declared.Tell.{Tell}
use Rattle.forms.specs.declared.Tell.TheVariants.{Ready, Inquiry, VitalData, Capacity10, Capacity16, Keys, Reservation}
use Rattle.forms.specs.declared.Test.{Test}
use Rattle.forms.specs.declared.Test.TheVariants.{Nothing, Page, VitalPage}
use Rattle.forms.specs.declared.Form.{Form}
use Rattle.forms.specs.declared.Request.{Request}
use Rattle.forms.specs.Forms.{Service, Entry, form, two, Line, takes, lines, listed, lookup, entry_for, entry_of, action, request_by, Asked, nothing, asks, asked_by, asked_in, asked_of}

-- a test of every line
unfoldable pub all : (Line → Bool) → List Line → Bool
all p [] = true
all p (l ∷ ls) = p l && all p ls

-- ---- a code that no line has

unfoldable pub lists : ℕ → List Line → Bool
lists n [] = false
lists n (l ∷ ls) = eqb n l.code || lists n ls

pub lookup_skips : (n a : ℕ) (e : Entry) (ls : List Line) → lists n ls ≡ false → lookup n a e ls ≡ e
unfolding lists lookup
lookup_skips n a e [] h = refl
lookup_skips n a e (l ∷ ls) h = go (eqb n l.code) (lists n ls) h (lookup_skips n a e ls)
  where
    go : (b z : Bool) → (b || z) ≡ false → (z ≡ false → lookup n a e ls ≡ e)
        → elim b [ false ↦ lookup n a e ls | true ↦ elim (takes l.actions a) [ true ↦ listed l.long (Some l.form) | false ↦ lookup n a (listed l.long None) ls ] ] ≡ e
    go true z h ih = absurd (true≢false h)
    go false z h ih = ih h

-- ---- a code whose lines do not take the action

unfoldable pub taken : ℕ → ℕ → List Line → Bool
taken n a [] = false
taken n a (l ∷ ls) = (eqb n l.code && takes l.actions a) || taken n a ls

-- what is found once every line is passed
unfoldable pub passed : ℕ → Entry → List Line → Entry
passed n e [] = e
passed n e (l ∷ ls) = passed n (cond (eqb n l.code) (listed l.long None) e) ls

pub lookup_passes : (n a : ℕ) (e : Entry) (ls : List Line) → taken n a ls ≡ false → lookup n a e ls ≡ passed n e ls
unfolding taken passed lookup
lookup_passes n a e [] h = refl
lookup_passes n a e (l ∷ ls) h = go (eqb n l.code) (takes l.actions a) h (lookup_passes n a e ls) (lookup_passes n a (listed l.long None) ls)
  where
    go : (b z : Bool) → ((b && z) || taken n a ls) ≡ false → (taken n a ls ≡ false → lookup n a e ls ≡ passed n e ls)
        → (taken n a ls ≡ false → lookup n a (listed l.long None) ls ≡ passed n (listed l.long None) ls)
        → elim b [ false ↦ lookup n a e ls | true ↦ elim z [ true ↦ listed l.long (Some l.form) | false ↦ lookup n a (listed l.long None) ls ] ]
        ≡ passed n (cond b (listed l.long None) e) ls
    go false z h x y = x h
    go true true h x y = absurd (true≢false h)
    go true false h x y = y h

-- ---- INQUIRY: bit 0 of byte 1 asks for a page

abbrev pub inquiry_entry : Tell → Test → Entry
inquiry_entry t page = listed 6 (Some (form (Tells t) None (two 3) page Nothing))

pub inquiry_entry_law : (a : ℕ) → entry_for 0x12 a ≡ cond (bit 0 a) (inquiry_entry VitalData VitalPage) (inquiry_entry Inquiry Page)
unfolding entry_for lookup lines takes
inquiry_entry_law a = go (bit 0 a)
  where
    go : (b : Bool)
        → elim (not b) [ true ↦ inquiry_entry Inquiry Page | false ↦ elim b [ true ↦ inquiry_entry VitalData VitalPage | false ↦ listed 6 None ] ]
        ≡ cond b (inquiry_entry VitalData VitalPage) (inquiry_entry Inquiry Page)
    go true = refl
    go false = refl

-- ---- rules

-- A rule of what was found before, and of every line and its other actions, is a rule of what is looked up.
module _ (P : ℕ → Entry → Bool) where
  unfoldable pub obeys : Line → Bool
  obeys l = P l.code (listed l.long (Some l.form)) && P l.code (listed l.long None)

  pub looked_up : (n a : ℕ) (e : Entry) (ls : List Line) → T (P n e) → T (all obeys ls) → T (P n (lookup n a e ls))
  unfolding lookup all obeys
  looked_up n a e [] h t = h
  looked_up n a e (l ∷ ls) h t =
      go (eqb n l.code) refl (takes l.actions a) (looked_up n a e ls h rest) (λ y. looked_up n a other ls y rest)
    where
      row : Entry
      row = listed l.long (Some l.form)

      other : Entry
      other = listed l.long None

      rest : T (all obeys ls)
      rest = and_r (obeys l) (all obeys ls) t

      here : T (P l.code row && P l.code other)
      here = and_l (obeys l) (all obeys ls) t

      at : (g : Entry) → eqb n l.code ≡ true → T (P l.code g) → T (P n g)
      at g q = subst (λ (m : ℕ). T (P m g)) (sym (eqb→eq n l.code (true→T _ q)))

      go : (b : Bool) → eqb n l.code ≡ b → (z : Bool) → T (P n (lookup n a e ls)) → (T (P n other) → T (P n (lookup n a other ls)))
          → T (P n (elim b [ false ↦ lookup n a e ls | true ↦ elim z [ true ↦ row | false ↦ lookup n a other ls ] ]))
      go false q z x y = x
      go true q true x y = at row q (and_l (P l.code row) (P l.code other) here)
      go true q false x y = y (at other q (and_r (P l.code row) (P l.code other) here))

-- a rule of rows alone
unfoldable pub service_rule : (Form → Bool) → Service → Bool
service_rule P (Some f) = P f
service_rule P None = true

unfoldable pub row_rule : (Form → Bool) → Entry → Bool
row_rule P (Some code) = service_rule P code.service
row_rule P None = true

-- a rule of commands is one of what is asked for
unfoldable pub asked_rule : (Command → Bool) → Asked → Bool
asked_rule P nothing = true
asked_rule P (asks r) = P r.command

module _ (P : Command → Bool) where
  service_obeys : (v : Service) (cdb : List ℕ) → T (service_rule (λ f. P f.command) v) → T (asked_rule P (asked_by v cdb))
  unfolding service_rule asked_by request_by asked_rule
  service_obeys (Some f) cdb t = t
  service_obeys None cdb t = tt

  pub asked_obeys : (e : Entry) (cdb : List ℕ) → T (row_rule (λ f. P f.command) e) → T (asked_rule P (asked_in e cdb))
  unfolding row_rule asked_in asked_rule
  asked_obeys (Some code) cdb t = service_obeys code.service cdb t
  asked_obeys None cdb t = tt

-- ---- which codes alter rights

unfoldable pub is_moves : Command → Bool
is_moves (Tells t) = false
is_moves (Moves m) = true
is_moves (Alters a) = false

unfoldable pub is_alters : Command → Bool
is_alters (Tells t) = false
is_alters (Moves m) = false
is_alters (Alters a) = true

-- is a command on the blocks asked for, or one that alters rights
unfoldable pub moves_in : Asked → Bool
moves_in nothing = false
moves_in (asks r) = is_moves r.command

unfoldable pub alters_in : Asked → Bool
alters_in nothing = false
alters_in (asks r) = is_alters r.command

-- 5Fh and no other code alters rights, and it moves nothing
unfoldable out_command : ℕ → Command → Bool
out_command n k = (not (is_alters k) || eqb n 0x5F) && not (is_moves k && eqb n 0x5F)

out_rule : (cdb : List ℕ) → T (row_rule (λ f. out_command (byte 0 cdb) f.command) (entry_of cdb))
unfolding entry_of entry_for lines row_rule service_rule out_command all obeys is_moves is_alters
out_rule cdb = looked_up (λ n e. row_rule (λ f. out_command n f.command) e) (byte 0 cdb) (action cdb) None lines tt tt

module _ (n : ℕ) where
  alters_out : (x : Asked) → T (asked_rule (out_command n) x) → T (alters_in x) → T (eqb n 0x5F)
  unfolding asked_rule alters_in out_command
  alters_out nothing t h = absurd h
  alters_out (asks r) t h =
      or_other (not (is_alters r.command)) (eqb n 0x5F) (not_not_intro (is_alters r.command) h)
      (and_l (not (is_alters r.command) || eqb n 0x5F) (not (is_moves r.command && eqb n 0x5F)) t)

  moves_other : (x : Asked) → T (asked_rule (out_command n) x) → T (moves_in x) → T (not (eqb n 0x5F))
  unfolding asked_rule moves_in out_command
  moves_other nothing t h = absurd h
  moves_other (asks r) t h =
      nand_rest (is_moves r.command) (eqb n 0x5F) h
      (and_r (not (is_alters r.command) || eqb n 0x5F) (not (is_moves r.command && eqb n 0x5F)) t)

module _ (cdb : List ℕ) where
  out_asked : T (asked_rule (out_command (byte 0 cdb)) (asked_of cdb))
  unfolding asked_of
  out_asked = asked_obeys (out_command (byte 0 cdb)) (entry_of cdb) cdb (out_rule cdb)

  pub alters_code : T (alters_in (asked_of cdb)) → T (eqb (byte 0 cdb) 0x5F)
  alters_code = alters_out (byte 0 cdb) (asked_of cdb) out_asked

  pub moves_code : T (moves_in (asked_of cdb)) → T (not (eqb (byte 0 cdb) 0x5F))
  moves_code = moves_other (byte 0 cdb) (asked_of cdb) out_asked

-- ---- which code is INQUIRY's

unfoldable pub is_inquiring : Command → Bool
is_inquiring (Tells Inquiry) = true
is_inquiring (Tells VitalData) = true
is_inquiring (Tells Ready) = false
is_inquiring (Tells Capacity10) = false
is_inquiring (Tells Capacity16) = false
is_inquiring (Tells Keys) = false
is_inquiring (Tells Reservation) = false
is_inquiring (Moves m) = false
is_inquiring (Alters a) = false

unfoldable pub inquiring : Entry → Bool
inquiring e = not (row_rule (λ f. not (is_inquiring f.command)) e)

-- 12h and no other
unfoldable inquiry_command : ℕ → Command → Bool
inquiry_command n k = eqb n 0x12 || not (is_inquiring k)

inquiry_rule : (n a : ℕ) → T (row_rule (λ f. inquiry_command n f.command) (entry_for n a))
unfolding entry_for lines row_rule service_rule inquiry_command all obeys is_inquiring
inquiry_rule n a = looked_up (λ n e. row_rule (λ f. inquiry_command n f.command) e) n a None lines tt tt

another : (n : ℕ) (e : Entry) → T (not (eqb n 0x12)) → T (row_rule (λ f. inquiry_command n f.command) e) → T (not (inquiring e))
unfolding row_rule service_rule inquiry_command inquiring
another n None d t = tt
another n (Some code) d t = go code.service t
  where
    go : (v : Service) → T (service_rule (λ f. eqb n 0x12 || not (is_inquiring f.command)) v)
        → T (not (not (service_rule (λ f. not (is_inquiring f.command)) v)))
    go (Some f) h = not_not_intro (not (is_inquiring f.command)) (or_other (eqb n 0x12) (not (is_inquiring f.command)) d h)
    go None h = tt

module _ (cdb : List ℕ) where
  pub code_inquiring : T (eqb (byte 0 cdb) 0x12) → T (inquiring (entry_of cdb))
  unfolding entry_of inquiring row_rule service_rule is_inquiring
  code_inquiring t = rw (eqb→eq (byte 0 cdb) 0x12 t, inquiry_entry_law (action cdb)) (go (bit 0 (action cdb)))
    where
      go : (b : Bool) → T (inquiring (cond b (inquiry_entry VitalData VitalPage) (inquiry_entry Inquiry Page)))
      go true = tt
      go false = tt

  pub other_inquiring : T (not (eqb (byte 0 cdb) 0x12)) → T (not (inquiring (entry_of cdb)))
  unfolding entry_of
  other_inquiring d = another (byte 0 cdb) (entry_for (byte 0 cdb) (action cdb)) d (inquiry_rule (byte 0 cdb) (action cdb))

  -- so it is seen from what is asked for
  asked_inquiring : (e : Entry) (r : Request) → asked_in e cdb ≡ asks r → T (inquiring e) → T (is_inquiring r.command)
  unfolding inquiring row_rule service_rule asked_in asked_by request_by asked_rule
  asked_inquiring None r h t = absurd t
  asked_inquiring (Some code) r h t = go code.service h t
    where
      go : (v : Service) → asked_by v cdb ≡ asks r → T (not (service_rule (λ f. not (is_inquiring f.command)) v)) → T (is_inquiring r.command)
      go (Some f) e k = subst (λ (x : Asked). T (asked_rule is_inquiring x)) e (not_not (is_inquiring f.command) k)
      go None e k = absurd k

  pub asked_other : (r : Request) → asked_of cdb ≡ asks r → T (not (is_inquiring r.command)) → T (not (eqb (byte 0 cdb) 0x12))
  unfolding asked_of
  asked_other r h n = not_map (is_inquiring r.command) (eqb (byte 0 cdb) 0x12) (λ t. asked_inquiring (entry_of cdb) r h (code_inquiring t)) n

-- ---- lengths

-- "6, 10 or 16 as its code has it"
unfoldable pub long_rule : Entry → Bool
long_rule (Some code) = eqb code.long 6 || (eqb code.long 10 || eqb code.long 16)
long_rule None = true

pub long_for : (n a : ℕ) → T (long_rule (entry_for n a))
unfolding entry_for lines long_rule all obeys
long_for n a = looked_up (λ _ e. long_rule e) n a None lines tt tt

pub long_rule_law : (cdb : List ℕ) → T (long_rule (entry_of cdb))
unfolding entry_of
long_rule_law cdb = long_for (byte 0 cdb) (action cdb)
