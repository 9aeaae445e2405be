-- Plain words that the other files are written in, beside the library's choice `if b then x else y`: tests over lists, refusals.
--
--   every p xs            every member of xs passes the test p
--   keep p xs             the members of xs that pass, in their order; how many pass is its length
--   member m xs           the number m is in the list xs
--   lacking a b           the members of a that b lacks, in their order
--   same_bytes v w         two runs of bytes are equal, byte by byte
--   in_names w ws          the run of bytes w is in the list ws
--   bytes t, byte t       the bytes of a quoted text; the byte of a quoted character
--   Answer A              a call's answer: refused with a number of the table, or what it gives
use Rattle.std.specs.Prelude.{ℕ, Bool, true, false, ◌&&◌, ◌||◌, not, List, [], ◌∷◌, eqb, if◌then◌else◌}
use Prim.Native.String.{String}
use Prim.Native.String as text
use Prim.Native.Char.{code}

unfoldable pub every : {A : Type 0} → (A → Bool) → List A → Bool
every p [] = true
every p (x ∷ xs) = p x && every p xs

unfoldable pub keep : {A : Type 0} → (A → Bool) → List A → List A
keep p [] = []
keep p (x ∷ xs) = if p x then x ∷ keep p xs else keep p xs

unfoldable pub member : ℕ → List ℕ → Bool
member m [] = false
member m (x ∷ xs) = eqb m x || member m xs

-- as in "the splits of i that j lacks"
unfoldable pub lacking : List ℕ → List ℕ → List ℕ
unfolding keep member
lacking a b = keep (λ m. not (member m b)) a

unfoldable pub same_bytes : List ℕ → List ℕ → Bool
same_bytes [] [] = true
same_bytes [] (y ∷ ys) = false
same_bytes (x ∷ xs) [] = false
same_bytes (x ∷ xs) (y ∷ ys) = eqb x y && same_bytes xs ys

unfoldable pub in_names : List ℕ → List (List ℕ) → Bool
unfolding same_bytes
in_names w [] = false
in_names w (v ∷ vs) = same_bytes v w || in_names w vs

-- texts of ASCII characters, each of which is one byte
unfoldable pub bytes : String → List ℕ
bytes text.[] = []
bytes (text.◌∷◌ c s) = code c ∷ bytes s

abbrev pub byte : String → ℕ
byte text.[] = 0
byte (text.◌∷◌ c s) = code c

-- "A refusal answers its number"
pub data Answer (A : Type 0) : Type 0 where
  refused : ℕ → Answer A
  gives : A → Answer A
