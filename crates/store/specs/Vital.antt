-- The vital product data of INQUIRY, by which a host learns the limits before it meets them.
-- demands/specs/Limits says that they are the limits that calls meet. Assumes nothing.
use Rattle.std.specs.Prelude.{cond, List, [], ◌∷◌, ◌++◌, ℕ, eqb, length}
use Rattle.fields.specs.Bytes.{zeros}
use Rattle.fields.specs.Field.{bytes}
use Rattle.forms.specs.Tests.{pages}

-- "as SBC lays them out": a connected direct access device, the page code, how many bytes follow, and these
unfoldable pub vital_page : ℕ → List ℕ → List ℕ
vital_page code body = 0x00 ∷ code ∷ (bytes 2 (length body) ++ body)

-- page 00h: the pages there are, by rising code
unfoldable pub pages_page : List ℕ
pages_page = vital_page 0x00 pages

-- page B0h: "128 blocks a transfer or WRITE SAME, 16 descriptors, FFFF_FFFFh unmap blocks (no limit), WSNZ set, … other limits 0"; the names are SBC's
unfoldable pub limits_page : List ℕ
limits_page =
    vital_page 0xB0
    (0x01  -- 4: WSNZ
    ∷ 0x00  -- 5: MAXIMUM COMPARE AND WRITE LENGTH
    ∷ (bytes 2 0  -- 6-7: OPTIMAL TRANSFER LENGTH GRANULARITY
    ++ (bytes 4 128  -- 8-11: MAXIMUM TRANSFER LENGTH
    ++ (bytes 4 0  -- 12-15: OPTIMAL TRANSFER LENGTH
    ++ (bytes 4 0  -- 16-19: MAXIMUM PREFETCH LENGTH
    ++ (bytes 4 0xFFFF_FFFF  -- 20-23: MAXIMUM UNMAP LBA COUNT
    ++ (bytes 4 16  -- 24-27: MAXIMUM UNMAP BLOCK DESCRIPTOR COUNT
    ++ (bytes 4 0  -- 28-31: OPTIMAL UNMAP GRANULARITY
    ++ (bytes 4 0  -- 32-35: UGAVALID, UNMAP GRANULARITY ALIGNMENT
    ++ (bytes 8 128  -- 36-43: MAXIMUM WRITE SAME LENGTH
    ++ zeros 20))))))))))  -- 44-63: limits of atomic writes

-- page B2h: "thin type, unmapping by UNMAP and WRITE SAME(16), reads as zeros, no anchoring, other limits 0"
unfoldable pub provisioning_page : List ℕ
provisioning_page =
    vital_page 0xB2
    (0x00  -- 4: THRESHOLD EXPONENT
    ∷ 0xC4  -- 5: LBPU and LBPWS set, LBPWS10 clear, LBPRZ 001b, ANC_SUP and DP clear
    ∷ 0x02  -- 6: PROVISIONING TYPE
    ∷ 0x00 ∷ [])  -- 7: no group

-- the page of a code; there is none of a code that is not listed
unfoldable pub vital_data : ℕ → List ℕ
vital_data code =
    cond (eqb code 0x00) pages_page
    (cond (eqb code 0xB0) limits_page
    (cond (eqb code 0xB2) provisioning_page []))
