-- Builds that are wrong in what they publish, and the laws of limits refuse them: one publishes another number than it enforces, one serves a page
-- that it does not list, one serves no page at all.
-- Assumes nothing.
use Rattle.std.specs.Prelude.{Bool, ◌&&◌, cond, [], ◌∷◌, ◌++◌, ℕ, eqb}
use Rattle.fields.specs.Bytes.{put}
use Rattle.fields.specs.Field.{byte, bit, bytes}
use Rattle.answers.specs.Answers.{invalid_field}
use Rattle.forms.specs.Forms.{page_bits}
use Rattle.store.specs.Store.{Call, seen_of}
use Rattle.store.specs.Step.{step}
use Rattle.demands.specs.History.{Build}
use Rattle.demands.specs.Contents.{cdb10, call_with}
use Rattle.demands.specs.WrongBuilds.{laid, showing}

-- ---- the builds

-- an INQUIRY for this page
unfoldable pub is_for : ℕ → Call → Bool
is_for code c = eqb (byte 0 c.cdb) 0x12 && bit 0 (byte 1 c.cdb) && eqb (byte 2 c.cdb) code

-- "128 blocks a transfer": page B0h, where all of it is asked for, says 127, and 128 pass
unfoldable pub understated : Build
understated s c =
    cond (is_for 0xB0 c && eqb (step s c).seen.returned 64)
    (record { seen = laid 8 (bytes 4 127) (step s c).seen; store = s })
    (step s c)

-- the same call for page B2h
unfoldable pub for_provisioning : Call → Call
for_provisioning c = call_with (put c.cdb 2 (0xB2 ∷ [])) c.nexus c.data_out c.data_in c.sense

-- "bit 0 of byte 1 set gives 2 only with an unlisted page": page B1h, where all of it is asked for, is served, as what page B2h has; page 00h does
-- not list it
unfoldable pub unlisted_served : Build
unlisted_served s c =
    cond (is_for 0xB1 c && eqb (step s (for_provisioning c)).seen.returned 8)
    (record { seen = laid 1 (0xB1 ∷ []) (step s (for_provisioning c)).seen; store = s })
    (step s c)

-- "byte 1 bit 0 set …: 2", as it was before there were pages: where none is read, nothing is published and nothing can be false
unfoldable pub mute : Build
mute s c = cond (eqb (byte 0 c.cdb) 0x12 && bit 0 (byte 1 c.cdb)) (record { seen = seen_of s.format (invalid_field page_bits) [] c; store = s }) (step s c)

-- ---- the calls that show it, on the store `shown` of WrongBuilds

-- INQUIRY for a page by a nexus that is not registered, with so many bytes allocated
unfoldable pub asks_for : ℕ → ℕ → Call
asks_for code n = showing (0x12 ∷ 1 ∷ code ∷ (bytes 2 n ++ (0 ∷ []))) 3 []

-- READ(10) of 128 blocks
unfoldable pub reads128 : Call
reads128 = showing (cdb10 0x28 0 128) 3 []
