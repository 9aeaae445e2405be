-- NEXUS files: what a file is, as a relation. No reader stands behind it. Requests 2026-01 and 2026-02 of document 02 are quoted.
--
--   run_of p s, behind_run p s  the longest run of bytes at the front of s that pass p, and what stands behind it
--   begins p s, ends p s      the first, the last byte of s passes p
--   uncommented q s           the bytes s with a blank for each comment; q: whether quotes are open before them
--   is_word k w                the token w is the keyword k
--   First s w r               the first token of s is w, behind blanks at most, and r stands behind it
--   Two s k n                 s is the tokens k and n, and blanks
--   Named s n                 s is the label n, and blanks
--   Pair, File                a key and its name; what a file gives: its pairs, and the texts of its trees as they stand
--   Begins c x                the command c begins the block x
--   EndsOther c               the command c ends another block
--   NoneEnds cs               none of the commands cs does
--   IsOthers cs               the commands cs are other blocks, one behind another
--   IsPairs rs ps             each of rs is a pair, and they are ps
--   most_keys                  how many keys a file may list
--   MayTranslate cs ps        cs is nothing, or a command that lists the pairs ps
--   is_name_byte b              a byte of a tree's name
--   IsLine c t                the command c is a tree's, with the text t
--   IsLines cs ts             each of cs is a tree's, and their texts are ts
--   IsEnd c                   the command c ends the TREES block
--   IsTrees cs x              the commands cs are the TREES block that gives x
--   IsNexus f x               the bytes f are a NEXUS file that gives x
use Rattle.std.specs.Prelude.{ℕ, ◌-◌, ◌≤◌, ◌≡◌, Bool, true, false, ◌&&◌, not, List, [], ◌∷◌, ◌++◌, map, leb, eqb, length, if◌then◌else◌}
use Prim.Native.String.{String}
use Rattle.trees.specs.Plain.{every, same_bytes, bytes, byte}
use Rattle.trees.specs.Text.{semicolon, is_blank, is_label_byte, turned, parts, is_label}

-- ---- bytes

unfoldable pub run_of : (ℕ → Bool) → List ℕ → List ℕ
run_of p [] = []
run_of p (b ∷ s) = if p b then b ∷ run_of p s else []

unfoldable pub behind_run : (ℕ → Bool) → List ℕ → List ℕ
behind_run p [] = []
behind_run p (b ∷ s) = if p b then behind_run p s else b ∷ s

unfoldable pub begins : (ℕ → Bool) → List ℕ → Bool
begins p [] = false
begins p (b ∷ s) = p b

-- the last byte passes p
unfoldable pub ends : (ℕ → Bool) → List ℕ → Bool
ends p [] = false
ends p (b ∷ []) = p b
ends p (b ∷ c ∷ s) = ends p (c ∷ s)

-- "a comment in square brackets .. ends at the first `]` and reads as a blank"; "quotes hide brackets", and in a comment there are none; of a
-- comment that never ends its bracket is left, the last byte
unfoldable mutual
  unfolding turned

  pub uncommented : Bool → List ℕ → List ℕ
  uncommented q [] = []
  uncommented q (b ∷ s) = elim (not q && eqb b (byte "[")) [ true ↦ behind_comment s | false ↦ b ∷ uncommented (turned q b) s ]

  pub behind_comment : List ℕ → List ℕ
  behind_comment [] = byte "[" ∷ []
  behind_comment (b ∷ s) = elim (eqb b (byte "]")) [ true ↦ byte " " ∷ uncommented false s | false ↦ behind_comment s ]

-- ---- tokens

-- "Keywords ignore case": a to z as A to Z
unfoldable pub capital : ℕ → ℕ
capital b = if leb (byte "a") b && leb b (byte "z") then b - (byte "a" - byte "A") else b

unfoldable pub is_word : String → List ℕ → Bool
unfolding capital same_bytes bytes
is_word k w = same_bytes (map capital w) (bytes k)

-- "A token is a longest run of label bytes", of one byte at least
unfoldable pub is_token : List ℕ → Bool
unfolding every is_label_byte
is_token w = leb 1 (length w) && every is_label_byte w

pub data First (s w r : List ℕ) : Type 0 where
  is-first : (a : List ℕ)
      → s ≡ a ++ (w ++ r)
      → every is_blank a ≡ true
      → is_token w ≡ true
      → begins is_label_byte r ≡ false
      → First s w r

pub data Two (s k n : List ℕ) : Type 0 where
  are-two : {r e : List ℕ} → First s k r → First r n e → every is_blank e ≡ true → Two s k n

-- a label as it stands, with its quotes, if it has any, behind blanks at most
pub data Named (s n : List ℕ) : Type 0 where
  is-named : (a e : List ℕ) → s ≡ a ++ (n ++ e) → every is_blank a ≡ true → is_label n ≡ true → every is_blank e ≡ true → Named s n

-- ---- blocks

abbrev pub Pair : Type 0
Pair = List ℕ × List ℕ

pub record File : Type 0 where
  pub pairs : List Pair
  pub texts : List (List ℕ)

-- `BEGIN`, a block's name and, as a command is what stands before a semicolon, `;`
pub data Begins (c x : List ℕ) : Type 0 where
  is-begin : {w : List ℕ} → Two c w x → is_word "BEGIN" w ≡ true → Begins c x

-- "the first token END that is followed .. by `;`": the command's last token is END
pub data EndsOther (c : List ℕ) : Type 0 where
  ends-other : (a w e : List ℕ)
      → c ≡ a ++ (w ++ e)
      → ends is_label_byte a ≡ false
      → is_word "END" w ≡ true
      → every is_blank e ≡ true
      → EndsOther c

-- "another block runs to its first `END;`"
pub data NoneEnds : List (List ℕ) → Type 0 where
  none-ends : NoneEnds []
  not_yet : {c : List ℕ} {cs : List (List ℕ)} → (EndsOther c → ⊥) → NoneEnds cs → NoneEnds (c ∷ cs)

pub data IsOthers : List (List ℕ) → Type 0 where
  no_other : IsOthers []
  other : {ds : List (List ℕ)} (c x : List ℕ) (cs : List (List ℕ)) (e : List ℕ) (os : List (List ℕ))
      → ds ≡ c ∷ (cs ++ (e ∷ os))
      → Begins c x
      → is_word "TREES" x ≡ false
      → NoneEnds cs
      → EndsOther e
      → IsOthers os
      → IsOthers ds

-- "a list of keys and names", a pair between two commas: a token, and a label behind it
pub data IsPairs : List (List ℕ) → List Pair → Type 0 where
  no-pair : IsPairs [] []
  a_pair : {r k e n : List ℕ} {rs : List (List ℕ)} {ps : List Pair} → First r k e → Named e n → IsPairs rs ps → IsPairs (r ∷ rs) ((k, n) ∷ ps)

-- "A 65th key is malformed"
abbrev pub most_keys : ℕ
most_keys = 64

-- "an optional TRANSLATE list"
pub data MayTranslate : List (List ℕ) → List Pair → Type 0 where
  no-list : MayTranslate [] []
  a-list : {c w r : List ℕ} {ps : List Pair}
      → First c w r
      → is_word "TRANSLATE" w ≡ true
      → IsPairs (parts (byte ",") false r) ps
      → length ps ≤ most_keys
      → MayTranslate (c ∷ []) ps

-- "name a token without `=`": its run ends at `=`
unfoldable pub is_name_byte : ℕ → Bool
unfolding is_label_byte
is_name_byte b = is_label_byte b && not (eqb b (byte "="))

-- "`TREE name = text;`"
pub data IsLine (c t : List ℕ) : Type 0 where
  is-line : {w r : List ℕ} (a n e : List ℕ)
      → First c w r
      → is_word "TREE" w ≡ true
      → r ≡ a ++ (n ++ (e ++ (byte "=" ∷ t)))
      → every is_blank a ≡ true
      → 1 ≤ length n
      → every is_name_byte n ≡ true
      → every is_blank e ≡ true
      → IsLine c t

pub data IsLines : List (List ℕ) → List (List ℕ) → Type 0 where
  no_line : IsLines [] []
  a-line : {c t : List ℕ} {cs ts : List (List ℕ)} → IsLine c t → IsLines cs ts → IsLines (c ∷ cs) (t ∷ ts)

pub data IsEnd (c : List ℕ) : Type 0 where
  is-end : {w r : List ℕ} → First c w r → is_word "END" w ≡ true → every is_blank r ≡ true → IsEnd c

-- "`BEGIN TREES;`, an optional TRANSLATE list .., `TREE name = text;` lines .., `END;`"
pub data IsTrees : List (List ℕ) → File → Type 0 where
  is-trees : {ds : List (List ℕ)} {x : File} (c w : List ℕ) (ls cs : List (List ℕ)) (e : List ℕ)
      → ds ≡ c ∷ (ls ++ (cs ++ (e ∷ [])))
      → Begins c w
      → is_word "TREES" w ≡ true
      → MayTranslate ls x.pairs
      → IsLines cs x.texts
      → IsEnd e
      → IsTrees ds x

-- "Read `#NEXUS` and its one TREES block"; behind it other blocks, and behind the last semicolon blanks
pub data IsNexus (f : List ℕ) (x : File) : Type 0 where
  is-nexus : {w r : List ℕ} (os bs us : List (List ℕ)) (e : List ℕ)
      → First (uncommented false f) w r
      → is_word "#NEXUS" w ≡ true
      → parts semicolon false r ≡ os ++ (bs ++ (us ++ (e ∷ [])))
      → IsOthers os
      → IsTrees bs x
      → IsOthers us
      → every is_blank e ≡ true
      → IsNexus f x
