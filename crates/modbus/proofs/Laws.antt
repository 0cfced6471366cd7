-- Laws of the frame check and of words, for lists of any numbers. Assumes nothing.
--     crc-fits         a CRC is below 65,536
--     last-two         the last two numbers of a list
--     framed-checks    a list followed by its CRC, low byte first, ends in its CRC
--     length-framed    its length
--     high_bit_or      a byte with 80 hex or-ed in
--     crc-behind, crc_behind    the CRC of a buffer's first bytes, stored behind them: of a list, and of two stores
--     header-closed    three bytes of a header before bytes that stand in a buffer, and the CRC behind them
--     closed-over, closed-part    bytes that were put behind the place of a header, or into the part there, made a read reply
--     word-read-back   a word written at any place of a list reads back
use mathlib.Core.Path.{◌≡◌, refl, sym, ap, ◌∙◌, subst}
use mathlib.Core.List.{List, [], ◌∷◌, ◌++◌, append_assoc}
use mathlib.Core.Bool.{Bool, true, false, cond}
use Prim.Native.Nat.{ℕ, zero, suc, ◌+◌, ◌-◌, ◌/◌, ◌%◌, ◌^◌, ◌≤◌, ◌<◌}
use native.Mathlib.Nat.{div-add-mod'}
use native.Mathlib.Numerals.{add-one}
use native.Mathlib.Omega.{arith}
use borrow.Author.Tests.{le-leb}
use lib.Dec.{eqb, leb, lit<}
use lib.Bits.{bit_or, bit_xor, xor_lt}
use lib.ListN.{length, get_or, set, take, drop, length-append}
use lib.Seq.{sets, drop-cons, drop-length, get_or_at, length-take-le, take-append_seam, drop-append_seam}
use Rattle.basics.specs.Lists.{pasted, tabulate}
use Rattle.basics.proofs.Lists.{get_or-tabulate, sets-pasted, part-here, part-back, pasted-over}
use Rattle.basics.proofs.Tests.{eqb_same}
use Rattle.modbus.specs.Crc.{crc_shift, crc_shifts, crc_byte, crc_from, crc_of, crc_bytes, with_crc, ends_in_crc}
use Rattle.modbus.specs.Frame.{read_reply_by, high_bit_set, Sent}
use Rattle.modbus.specs.Word.{word_at, word_bytes}

-- ---- the CRC fits 16 bits
half-fits : (c : ℕ) → c < 2 ^ 16 → c / 2 < 2 ^ 16
half-fits c h = omega arith

pub shift_fits : (c : ℕ) → c < 2 ^ 16 → crc_shift c < 2 ^ 16
unfolding crc_shift
shift_fits c h = go (eqb (c % 2) 1)
  where
    go : (odd : Bool) → cond odd (bit_xor (c / 2) 0xA001) (c / 2) < 2 ^ 16
    go true = xor_lt 16 (c / 2) 0xA001 (half-fits c h) (lit< tt)
    go false = half-fits c h

pub shifts_fit : (n c : ℕ) → c < 2 ^ 16 → crc_shifts n c < 2 ^ 16
unfolding crc_shifts
shifts_fit zero c h = h
shifts_fit (suc n) c h = shift_fits (crc_shifts n c) (shifts_fit n c h)

pub byte_fits : (c b : ℕ) → c < 2 ^ 16 → crc_byte c b < 2 ^ 16
unfolding crc_byte
byte_fits c b h = shifts_fit 8 (bit_xor c (b % 256)) (xor_lt 16 c (b % 256) h (omega arith))

from-fits : (c : ℕ) (bs : List ℕ) → c < 2 ^ 16 → crc_from c bs < 2 ^ 16
unfolding crc_from
from-fits c [] h = h
from-fits c (b ∷ bs) h = from-fits (crc_byte c b) bs (byte_fits c b h)

pub crc-fits : (bs : List ℕ) → crc_of bs < 2 ^ 16
unfolding crc_of
crc-fits bs = from-fits 0xFFFF bs (lit< tt)

-- ---- a list followed by its CRC checks
pub last-two : (s : List ℕ) → 2 ≤ length s → drop (length s - 2) s ≡ get_or s (length s - 2) 0 ∷ get_or s (length s - 1) 0 ∷ []
last-two s long =
    let n = length s in
    let next : suc (n - 2) ≡ n - 1 = omega arith in
    let end : suc (n - 1) ≡ n = omega arith in
    drop-cons s (n - 2) 0 (omega arith)
    ∙ ap (λ t. get_or s (n - 2) 0 ∷ t) (ap (λ k. drop k s) next ∙ drop-cons s (n - 1) 0 (omega arith) ∙ ap (λ k. get_or s (n - 1) 0 ∷ drop k s) end ∙ ap (λ t. get_or s (n - 1) 0 ∷ t) (drop-length s))

pub framed-checks : (bs : List ℕ) → ends_in_crc (with_crc bs) ≡ true
unfolding with_crc ends_in_crc
framed-checks bs =
    let c : ℕ = crc_of bs in
    let n : length (bs ++ crc_bytes c) ≡ length bs + 2 = length-append bs (crc_bytes c) in
    let two : leb 2 (length bs + 2) ≡ true = le-leb 2 (length bs + 2) (omega arith) in
    let front : length bs + 2 - 2 ≡ length bs = omega arith in
    let body : take (length bs) (bs ++ crc_bytes c) ≡ bs = take-append_seam bs (crc_bytes c) in
    let tail : drop (length bs) (bs ++ crc_bytes c) ≡ crc_bytes c = drop-append_seam bs (crc_bytes c) in
    simp (n, two, front, body, tail, eqb_same)

-- ---- a byte with its highest bit set, tested at each byte
high-bits : tabulate 256 (λ f. bit_or f 0x80) ≡ tabulate 256 high_bit_set
unfolding tabulate high_bit_set
high-bits = refl

pub high_bit_or : (f : ℕ) → f < 256 → bit_or f 0x80 ≡ high_bit_set f
high_bit_or f byte =
    sym (get_or-tabulate 256 (λ k. bit_or k 0x80) f 0 byte) ∙ ap (λ l. get_or l f 0) high-bits ∙ get_or-tabulate 256 high_bit_set f 0 byte

pub length-framed : (bs : List ℕ) → length (with_crc bs) ≡ length bs + 2
unfolding with_crc
length-framed bs = length-append bs (crc_bytes (crc_of bs))

-- ---- frames in a buffer
pub crc-behind : (b : List ℕ) (n sum : ℕ) → n + 2 ≤ length b → sum ≡ crc_of (take n b) → sets b n (crc_bytes sum) ≡ pasted b 0 (with_crc (take n b))
unfolding with_crc
crc-behind b n sum fits is =
    let front = take n b in
    let end : n + 2 ≡ 0 + length (take n b ++ crc_bytes (crc_of (take n b))) = simp (length-append, length-take-le n b (omega arith)) (omega arith) in
    ap (λ c. sets b n (crc_bytes c)) is
    ∙ sets-pasted b (crc_bytes (crc_of front)) n fits
    ∙ sym (append_assoc front (crc_bytes (crc_of front)) (drop (n + 2) b))
    ∙ ap (λ k. (front ++ crc_bytes (crc_of front)) ++ drop k b) end

pub crc_behind : (b : List ℕ) (n sum : ℕ) → n + 2 ≤ length b → sum ≡ crc_of (take n b) →
    set (set b n (sum % 256)) (n + 1) (sum / 256) ≡ pasted b 0 (with_crc (take n b))
crc_behind b n sum fits is = simp add-one (crc-behind b n sum fits is)

pub header-closed : (b : List ℕ) (x y z size n : ℕ) → size + 5 ≤ length b → n ≡ size + 3 →
    let headed = sets b 0 (x ∷ y ∷ z ∷ []) in
    pasted headed 0 (with_crc (take n headed)) ≡ pasted b 0 (with_crc (x ∷ y ∷ z ∷ take size (drop 3 b)))
header-closed b x y z size n fits is =
    let head = x ∷ y ∷ z ∷ [] in
    let long : n ≡ suc (suc (suc size)) = omega arith in
    ap (λ h. pasted h 0 (with_crc (take n h))) (sets-pasted b head 0 (omega arith))
    ∙ ap (λ k. pasted (pasted b 0 head) 0 (with_crc (take k (pasted b 0 head)))) long
    ∙ pasted-over b head (with_crc (x ∷ y ∷ z ∷ take size (drop 3 b))) 0 (omega arith) (rw length-framed (omega arith))

-- bytes that were put behind the place of a header, made a read reply
pub closed-over : (b bytes b' : List ℕ) (unit function size told : ℕ) → length bytes ≡ size → 3 + size ≤ length b →
    Sent (read_reply_by unit function (take size (drop 3 (pasted b 3 bytes)))) (pasted b 3 bytes) told b' →
    Sent (read_reply_by unit function bytes) b told b'
unfolding read_reply_by
closed-over b bytes b' unit function size told long fits sent =
    let there : take size (drop 3 (pasted b 3 bytes)) ≡ bytes
    = ap (λ n. take n (drop 3 (pasted b 3 bytes))) (sym long) ∙ part-here b bytes 3 (omega arith) in
    let now = subst (λ x. Sent (read_reply_by unit function x) (pasted b 3 bytes) told b') there sent in
    record {
      size = now.size;
      left = now.left ∙ pasted-over b bytes (read_reply_by unit function bytes) 3 (omega arith) (rw length-framed (omega arith));
    }

-- bytes w that a writer left in the part behind the place of a header, made a read reply
pub closed-part : (b w bytes b' : List ℕ) (unit function size told : ℕ) → w ≡ bytes → length bytes ≡ size → 3 + size ≤ length b →
    (let x = take 3 b ++ (w ++ drop (3 + size - 3) (drop 3 b)) in Sent (read_reply_by unit function (take size (drop 3 x))) x told b') →
    Sent (read_reply_by unit function bytes) b told b'
closed-part b w bytes b' unit function size told is long fits sent =
    let to : size ≡ 3 + size - 3 = omega arith in
    let back : take 3 b ++ (w ++ drop (3 + size - 3) (drop 3 b)) ≡ pasted b 3 bytes
    = ap (λ y. take 3 b ++ (y ++ drop (3 + size - 3) (drop 3 b))) is ∙ part-back b bytes 3 (3 + size - 3) (long ∙ to) in
    closed-over b bytes b' unit function size told long fits
    (subst (λ x. Sent (read_reply_by unit function (take size (drop 3 x))) x told b') back sent)

-- ---- words
pub word-read-back : (s : List ℕ) (i w : ℕ) → i + 2 ≤ length s → word_at (pasted s i (word_bytes w)) i ≡ w
word-read-back s i w fits =
    let high : get_or (pasted s i (word_bytes w)) i 0 ≡ w / 256 = get_or_at (take i s) (w / 256) _ 0 i (length-take-le i s (omega arith)) in
    let front : length (take i s ++ (w / 256 ∷ [])) ≡ i + 1 = length-append (take i s) (w / 256 ∷ []) ∙ ap (λ k. k + 1) (length-take-le i s (omega arith)) in
    let low : get_or (pasted s i (word_bytes w)) (i + 1) 0 ≡ w % 256
    = ap (λ l. get_or l (i + 1) 0) (sym (append_assoc (take i s) (w / 256 ∷ []) _)) ∙ get_or_at (take i s ++ (w / 256 ∷ [])) (w % 256) _ 0 (i + 1) front in
    rw (high, low) (omega (arith, div-add-mod' w 256))
