-- The CRC of Modbus RTU, and a frame that ends in its own.
-- The definitions take lists of any numbers; the CRC takes the byte in each.
use Rattle.std.specs.Prelude.{List, [], ◌∷◌, ◌++◌, Bool, cond, ◌&&◌, ℕ, zero, suc, ◌-◌, ◌/◌, ◌%◌, leb, eqb, length, take, drop}
use Rattle.std.specs.Int.Bits.{bit_xor}
use Rattle.basics.specs.Lists.{same}

-- one shift right; if the bit lost was 1, exclusive-or A001 hex
unfoldable pub crc_shift : ℕ → ℕ
crc_shift c = cond (eqb (c % 2) 1) (bit_xor (c / 2) 0xA001) (c / 2)

-- the same n times
unfoldable pub crc_shifts : ℕ → ℕ → ℕ
crc_shifts zero c = c
crc_shifts (suc n) c = crc_shift (crc_shifts n c)

-- a byte is exclusive-ored in, then eight shifts
unfoldable pub crc_byte : ℕ → ℕ → ℕ
crc_byte c b = crc_shifts 8 (bit_xor c (b % 256))

-- byte after byte, from the value c
unfoldable pub crc_from : ℕ → List ℕ → ℕ
crc_from c [] = c
crc_from c (b ∷ bs) = crc_from (crc_byte c b) bs

-- the CRC of a list of bytes; it starts at FFFF hex
unfoldable pub crc_of : List ℕ → ℕ
crc_of bs = crc_from 0xFFFF bs

-- in a frame the CRC goes low byte first
abbrev pub crc_bytes : ℕ → List ℕ
crc_bytes c = c % 256 ∷ c / 256 ∷ []

-- a list of bytes followed by its CRC
unfoldable pub with_crc : List ℕ → List ℕ
with_crc bs = bs ++ crc_bytes (crc_of bs)

-- whether a frame of any length ends in the CRC of what is before; one of 0 or 1 bytes does not
unfoldable pub ends_in_crc : List ℕ → Bool
ends_in_crc s = leb 2 (length s) && same (drop (length s - 2) s) (crc_bytes (crc_of (take (length s - 2) s)))
