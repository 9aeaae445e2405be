-- What is left of a NEXUS file, from a place on; beside it the whole file.
--
--   Ended cs          behind the TREES block: other blocks, and blanks
--   Lined cs ts       in the TREES block, behind its list of keys: lines with the texts ts, and its end
--   Listed cs x       from the begin of the TREES block on
--   Began cs x        from the file's begin on
--   nothing           a file without pairs and texts
--   LeftOutside came cs x, LeftOther came cs x, LeftTrees fresh cs x     what is left outside the blocks, in another block, in the TREES block
--   Left q cs x       the commands cs are what is left of a file, from the place q on, and give x
--   file-began        a file has begun behind `#NEXUS`
--   began-file        and what has begun there is a file
use Rattle.std.specs.Prelude.{ℕ, ◌≡◌, refl, Bool, true, false, List, [], ◌∷◌, ◌++◌}
use Rattle.std.proofs.Common.{arith, ap, sym, ◌∙◌, append_assoc}
use Rattle.trees.specs.Plain.{every, bytes}
use Rattle.trees.specs.Text.{semicolon, is_blank, parts}
use Rattle.trees.specs.Nexus.{uncommented, is_word, File, Begins, EndsOther, NoneEnds, IsOthers, MayTranslate, IsLines, IsEnd, IsTrees, is-trees, IsNexus, is-nexus}
use Rattle.trees.specs.NexusReading.{first_token, behind_first, Place, outside, in_other, in_trees}
use Rattle.theorems.specs.TokenLaws.{word_some, first-stands, first_found}

-- behind the TREES block: other blocks, and blanks
pub data Ended (cs : List (List ℕ)) : Type 0 where
  is-ended : (us : List (List ℕ)) (e : List ℕ) → cs ≡ us ++ (e ∷ []) → IsOthers us → every is_blank e ≡ true → Ended cs

-- in the TREES block, behind its list of keys: lines with the texts ts, and its end
pub data Lined (cs ts : List (List ℕ)) : Type 0 where
  is-lined : (ls : List (List ℕ)) (e : List ℕ) (ds : List (List ℕ)) → cs ≡ ls ++ (e ∷ ds) → IsLines ls ts → IsEnd e → Ended ds → Lined cs ts

-- from the begin of the TREES block on
pub data Listed (cs : List (List ℕ)) (x : File) : Type 0 where
  is-listed : (ls ds : List (List ℕ)) → cs ≡ ls ++ ds → MayTranslate ls x.pairs → Lined ds x.texts → Listed cs x

-- from the file's begin on
pub data Began (cs : List (List ℕ)) (x : File) : Type 0 where
  is-began : (os : List (List ℕ)) (c w : List ℕ) (ds : List (List ℕ))
      → cs ≡ os ++ (c ∷ ds)
      → IsOthers os
      → Begins c w
      → is_word "TREES" w ≡ true
      → Listed ds x
      → Began cs x

abbrev pub nothing : File
nothing = record { pairs = []; texts = [] }

abbrev pub LeftOutside : Bool → List (List ℕ) → File → Type 0
LeftOutside true cs x = Ended cs × (x ≡ nothing)
LeftOutside false cs x = Began cs x

-- in another block: to its end, and then outside
pub data LeftOther (came : Bool) (cs : List (List ℕ)) (x : File) : Type 0 where
  is-left : (ns : List (List ℕ)) (e : List ℕ) (ds : List (List ℕ)) → cs ≡ ns ++ (e ∷ ds) → NoneEnds ns → EndsOther e → LeftOutside came ds x → LeftOther came cs x

abbrev pub LeftTrees : Bool → List (List ℕ) → File → Type 0
LeftTrees true cs x = Listed cs x
LeftTrees false cs x = Lined cs x.texts × (x.pairs ≡ [])

abbrev pub Left : Place → List (List ℕ) → File → Type 0
Left (outside came) cs x = LeftOutside came cs x
Left (in_other came) cs x = LeftOther came cs x
Left (in_trees fresh) cs x = LeftTrees fresh cs x

-- ---- the whole file

module _ (os ls ts : List (List ℕ)) (c e : List ℕ) (ds : List (List ℕ)) where
  -- the commands of the TREES block, and those behind it
  joined : os ++ ((c ∷ (ls ++ (ts ++ (e ∷ [])))) ++ ds) ≡ os ++ (c ∷ (ls ++ (ts ++ (e ∷ ds))))
  joined = ap (λ (y : List (List ℕ)). os ++ (c ∷ y)) (append_assoc ls (ts ++ (e ∷ [])) ds ∙ ap (λ (y : List (List ℕ)). ls ++ y) (append_assoc ts (e ∷ []) ds))

file-trees : {cs os bs ds : List (List ℕ)} {x : File} → cs ≡ os ++ (bs ++ ds) → IsOthers os → IsTrees bs x → Ended ds → Began cs x
file-trees {os = os} {ds = ds} p o (is-trees c w ls ts e q b word m l i) d =
    is-began os c w (ls ++ (ts ++ (e ∷ ds))) (p ∙ ap (λ (y : List (List ℕ)). os ++ (y ++ ds)) q ∙ joined os ls ts c e ds) o b word
    (is-listed ls (ts ++ (e ∷ ds)) refl m (is-lined ts e ds refl l i d))

pub file-began : {f : List ℕ} {x : File} → IsNexus f x → (is_word "#NEXUS" (first_token (uncommented false f)) ≡ true) × Began (parts semicolon false (behind_first (uncommented false f))) x
file-began (is-nexus os bs us e first word p o t u blank) =
    let g = first_found first in
    (ap (is_word "#NEXUS") g.token-found ∙ word, file-trees (ap (parts semicolon false) g.rest-found ∙ p) o t (is-ended us e refl u blank))

pub began-file : {f : List ℕ} {x : File} → is_word "#NEXUS" (first_token (uncommented false f)) ≡ true → Began (parts semicolon false (behind_first (uncommented false f))) x → IsNexus f x
unfolding bytes
began-file {f} word (is-began os c w ds p o b trees (is-listed ls rs q m (is-lined ts e us r l i (is-ended vs d s others blank)))) =
    is-nexus os (c ∷ (ls ++ (ts ++ (e ∷ [])))) vs d (first-stands (uncommented false f) (word_some "#NEXUS" (first_token (uncommented false f)) word (omega arith))) word
    (p
    ∙ ap (λ (y : List (List ℕ)). os ++ (c ∷ y)) (q ∙ ap (λ (y : List (List ℕ)). ls ++ y) (r ∙ ap (λ (y : List (List ℕ)). ts ++ (e ∷ y)) s))
    ∙ sym (joined os ls ts c e (vs ++ (d ∷ []))))
    o (is-trees c w ls ts e refl b trees m l i) others blank
