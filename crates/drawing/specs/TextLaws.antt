-- The laws of lines behind a prefix. Assumes nothing.
--
--   each_all                    each line behind the prefix: the prefix, and the lines but for it
--   text-hung, text-branch      the text of lines that hang on a branch, and of a node's branches
--   hung-length, branch-length  how many lines these are
--   text-root                   behind no prefix, the text is that of the lines with their ends
use Rattle.std.specs.Prelude.{ℕ, suc, ◌+◌, ◌<◌, ◌≡◌, refl, length}
use Rattle.std.proofs.Common.{arith, sym, ap, ◌∙◌, length-append}
use mathlib.Core.List.{List, [], ◌∷◌, ◌++◌, map, flat_map, append_assoc}
use Rattle.std.proofs.lemmas.List.{length-map}
use Rattle.trees.specs.Drawn.{hung, below, branch}
use Rattle.putting.specs.Lines.{bytes_of}
use Rattle.drawing.specs.Drawing.{each, drawn_text}

-- ---- each line behind a prefix

each_map : (p b : List ℕ) (ls : List (List ℕ)) → each p (map (λ k. b ++ k) ls) ≡ each (p ++ b) ls
unfolding each
each_map p b [] = refl
each_map p b (l ∷ ls) =
    ap (λ (v : List ℕ). p ++ ((b ++ l) ++ (10 ∷ v))) (each_map p b ls)
    ∙ ap (λ (v : List ℕ). p ++ v) (append_assoc b l (10 ∷ each (p ++ b) ls))
    ∙ sym (append_assoc p b (l ++ (10 ∷ each (p ++ b) ls)))

each_append : (p : List ℕ) (ls ms : List (List ℕ)) → each p (ls ++ ms) ≡ each p ls ++ each p ms
unfolding each
each_append p [] ms = refl
each_append p (l ∷ ls) ms =
    ap (λ (v : List ℕ). p ++ (l ++ (10 ∷ v))) (each_append p ls ms)
    ∙ ap (λ (v : List ℕ). p ++ v) (sym (append_assoc l (10 ∷ each p ls) (each p ms)))
    ∙ sym (append_assoc p (l ++ (10 ∷ each p ls)) (each p ms))

pub each_all : (p : List ℕ) (ls : List (List ℕ)) → 0 < length ls → each p ls ≡ p ++ drawn_text p ls
unfolding each drawn_text
each_all p [] h = absurd (omega arith)
each_all p (l ∷ ls) h = refl

-- ---- lines that hang on a branch, and the branches of a node

pub text-hung : (p k b : List ℕ) (ls : List (List ℕ)) → 0 < length ls → drawn_text p (hung k b ls) ≡ k ++ drawn_text (p ++ b) ls
unfolding drawn_text hung
text-hung p k b [] h = absurd (omega arith)
text-hung p k b (l ∷ ls) h = ap (λ (v : List ℕ). (k ++ l) ++ (10 ∷ v)) (each_map p b ls) ∙ append_assoc k l (10 ∷ each (p ++ b) ls)

pub text-branch : (p : List ℕ) (ls rest : List (List ℕ)) → 0 < length ls
    → drawn_text p (branch ls rest) ≡ 43 ∷ (drawn_text (p ++ below rest) ls ++ each p rest)
unfolding drawn_text branch hung
text-branch p [] rest h = absurd (omega arith)
text-branch p (l ∷ ls) rest h =
    ap (λ (v : List ℕ). 43 ∷ (l ++ (10 ∷ v)))
    (each_append p (map (λ k. below rest ++ k) ls) rest ∙ ap (λ (v : List ℕ). v ++ each p rest) (each_map p (below rest) ls))
    ∙ ap (λ (v : List ℕ). 43 ∷ v) (sym (append_assoc l (10 ∷ each (p ++ below rest) ls) (each p rest)))

pub hung-length : (a b : List ℕ) (ls : List (List ℕ)) → length (hung a b ls) ≡ length ls
unfolding hung
hung-length a b [] = refl
hung-length a b (l ∷ ls) = ap suc (length-map ls (λ k. b ++ k))

pub branch-length : (ls rest : List (List ℕ)) → length (branch ls rest) ≡ length ls + length rest
unfolding branch
branch-length ls rest = let h = hung (43 ∷ []) (below rest) ls in omega (arith, length-append h rest, hung-length (43 ∷ []) (below rest) ls)

-- ---- the lines of a whole tree

each_none : (ls : List (List ℕ)) → each [] ls ≡ bytes_of (map (λ l. l ++ 10 ∷ []) ls)
unfolding each bytes_of flat_map
each_none [] = refl
each_none (l ∷ ls) = ap (λ (v : List ℕ). l ++ (10 ∷ v)) (each_none ls) ∙ sym (append_assoc l (10 ∷ []) (bytes_of (map (λ k. k ++ 10 ∷ []) ls)))

pub text-root : (ls : List (List ℕ)) → drawn_text [] ls ≡ bytes_of (map (λ l. l ++ 10 ∷ []) ls)
unfolding drawn_text each bytes_of flat_map
text-root [] = refl
text-root (l ∷ ls) = each_none (l ∷ ls)
