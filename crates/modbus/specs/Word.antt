-- In frames and layouts numbers go high byte first. A word is a number of 16 bits.
use Rattle.std.specs.Prelude.{List, [], ◌∷◌, ℕ, ◌+◌, ◌*◌, ◌/◌, ◌%◌, get_or}

-- the two bytes of a word
abbrev pub word_bytes : ℕ → List ℕ
word_bytes w = w / 256 ∷ w % 256 ∷ []

-- the number that bytes make, going on from m
abbrev pub number_from : ℕ → List ℕ → ℕ
number_from m [] = m
number_from m (b ∷ bs) = number_from (m * 256 + b) bs

abbrev pub number_of : List ℕ → ℕ
number_of bs = number_from 0 bs

-- the word whose high byte is at place i
abbrev pub word_at : List ℕ → ℕ → ℕ
word_at s i = number_of (get_or s i 0 ∷ get_or s (i + 1) 0 ∷ [])
