-- Commands that tell what everybody may know: TEST UNIT READY, INQUIRY and its pages, READ CAPACITY(10) and (16), PERSISTENT RESERVE IN.
-- They see the unit's record alone, and change nothing. Assumes nothing.
use Rattle.std.specs.Prelude.{List, [], ◌∷◌, ◌++◌, ℕ, ◌-◌, min, ltb, length, take}
use Rattle.fields.specs.Bytes.{zeros}
use Rattle.fields.specs.Field.{bytes}
use Rattle.answers.specs.declared.Answer.TheVariants.{Short}
use Rattle.answers.specs.Order.{Row, ◌if◌}
use Rattle.pool.specs.Bounds.{block_bytes}
use Rattle.rights.specs.Told.{keys_data, reservation_data}
use Rattle.forms.specs.declared.Tell.{Tell}
use Rattle.forms.specs.declared.Tell.TheVariants.{Ready, Inquiry, VitalData, Capacity10, Capacity16, Keys, Reservation}
use Rattle.forms.specs.declared.Request.{Request}
use Rattle.forms.specs.Forms.{allocation_in}
use Rattle.store.specs.declared.Unit.{Unit}
use Rattle.store.specs.Vital.{vital_data}

-- "Data 36 bytes: 00 00 06 02 1F 00 00 00, `RIDGE` padded with spaces to 8, `LOAD LOG STORE` padded to 16, `0100`."
unfoldable pub inquiry_data : List ℕ
inquiry_data =
    0x00 ∷ 0x00 ∷ 0x06 ∷ 0x02 ∷ 0x1F ∷ 0x00 ∷ 0x00 ∷ 0x00
    ∷ 0x52 ∷ 0x49 ∷ 0x44 ∷ 0x47 ∷ 0x45 ∷ 0x20 ∷ 0x20 ∷ 0x20
    ∷ 0x4C ∷ 0x4F ∷ 0x41 ∷ 0x44 ∷ 0x20 ∷ 0x4C ∷ 0x4F ∷ 0x47 ∷ 0x20 ∷ 0x53 ∷ 0x54 ∷ 0x4F ∷ 0x52 ∷ 0x45 ∷ 0x20 ∷ 0x20
    ∷ 0x30 ∷ 0x31 ∷ 0x30 ∷ 0x30 ∷ []

-- "bytes 0-3 the last address, or FFFF_FFFFh if it is larger; 4-7 are 512"
unfoldable pub capacity10_data : ℕ → List ℕ
capacity10_data capacity = bytes 4 (min (capacity - 1) 0xFFFF_FFFF) ++ bytes 4 block_bytes

-- "32 bytes: last address 0-7, 512 in 8-11, byte 14 C0h, others 0"
unfoldable pub capacity16_data : ℕ → List ℕ
capacity16_data capacity = bytes 8 (capacity - 1) ++ (bytes 4 block_bytes ++ (zeros 2 ++ (0xC0 ∷ zeros 17)))

-- what is told: "the returned bytes are the first min(allocation length, available)"; READ CAPACITY(10) has no allocation length: "All 8
-- bytes return."
unfoldable pub told : Tell → Request → Unit → List ℕ
told Ready q u = []
told Inquiry q u = take (allocation_in q) inquiry_data
told VitalData q u = take (allocation_in q) (vital_data q.page)
told Capacity10 q u = capacity10_data u.capacity
told Capacity16 q u = take (allocation_in q) (capacity16_data u.capacity)
told Keys q u = take (allocation_in q) (keys_data u.rights)
told Reservation q u = take (allocation_in q) (reservation_data u.rights)

-- "12 if data-in is shorter than what is returned"
unfoldable pub tell_rows : Tell → Request → Unit → List ℕ → List Row
tell_rows t q u data_in = Short if ltb (length data_in) (length (told t q u)) ∷ []
