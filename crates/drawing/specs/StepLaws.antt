-- The laws of the recursion that draws, as the code makes it. Assumes nothing.
--
--   step-none, step-last, step-more     what is put: nothing, the last child, a child and the others
--   step-within                         the first child is one of the splits, where it is a group
--   step-prefix                         there is room for a longer prefix
--   step-ones                           the taxa of the first child and of the others
--   leaf-put, group-put                 a child: its name, or its count and its branches
--   name-short, leaf-fits               a name, and the line of a leaf, are short
--   longer-put, longer-taken, taken-length      a longer prefix, as it is made, and how long it is
use Rattle.std.specs.Prelude.{ℕ, ◌+◌, ◌-◌, ◌*◌, ◌≤◌, ◌<◌, ◌≡◌, ◌⊎◌, Bool, false, eqb, length, get_or, set, take, replicate}
use Rattle.std.proofs.Common.{arith, sym, ◌∙◌, inl, inr, length-append, eqb-true, eq-eqb, ne_eqb}
use Rattle.std.proofs.Math.Path.{refl, ap}
use Rattle.std.proofs.Math.Bool.{true}
use mathlib.Core.List.{List, [], ◌∷◌, ◌++◌, append_assoc, append-nil}
use Rattle.std.specs.Int.Count.{ones}
use Rattle.std.proofs.lemmas.List.{length-map}
use Rattle.std.proofs.lemmas.Bool.{eqb-false}
use Rattle.trees.specs.Plain.{bytes}
use Rattle.trees.specs.Mask.{without}
use Rattle.trees.specs.Names.{good_names}
use Rattle.trees.specs.Consensus.{count}
use Rattle.trees.specs.Written.{written_name}
use Rattle.trees.specs.Drawn.{hung, branch_to, blank, below, branch}
use Rattle.theorems.specs.ListLaws.{if-true, if-false, Mem}
use Rattle.theorems.specs.MaskLaws.{without_sub}
use Rattle.theorems.specs.OnesLaws.{ones-zero, ones_pos, ones_bit, ones-part}
use Rattle.theorems.specs.NameLaws.{good-count, good-name}
use Rattle.theorems.specs.WidestLaws.{Fit, widest-from}
use Rattle.theorems.specs.WrittenNameLaws.{name-length}
use Rattle.putting.specs.Put.{Put}
use Rattle.putting.specs.PutLaws.{put-none, put_one, put_then, put_as, put-taken}
use Rattle.writer.specs.Branch.{child_mask, Step}
use Rattle.writer.specs.BranchLaws.{mask-leaf, positive, child-sub, child-ok, child-ones, rest-ready}
use Rattle.drawing.specs.Drawing.{grown_lines, each, drawn_text, leaf_line, group_branch, beside, longer, child_drawn}
use Rattle.drawing.specs.TextLaws.{each_all, text-hung, text-branch, hung-length}
use Rattle.drawing.specs.GrownLaws.{lines_none, lines-some, lines-leaf, lines-inner}

-- ---- a child

module _ (ns ts : List (List ℕ)) (s p : List ℕ) (last : Bool) (i x : ℕ) where
  child-leaf : x ≡ 0 → child_drawn ns ts s p last i x ≡ leaf_line ns i ++ 10 ∷ []
  unfolding child_drawn
  child-leaf z = if-true _ _ (eq-eqb x 0 z)

  child-inner : (x ≡ 0 → ⊥) → child_drawn ns ts s p last i x ≡ group_branch ts x ++ drawn_text (longer p last (group_branch ts x)) (grown_lines ns ts s x x)
  unfolding child_drawn
  child-inner z = if-false _ _ (ne_eqb x 0 z)

  pub leaf-put : {w l after : List ℕ} {at e : ℕ} → x ≡ 0 → get_or ns i [] ≡ w → Put l at (45 ∷ 32 ∷ (written_name w ++ 10 ∷ [])) after e
      → Put l at (child_drawn ns ts s p last i x) after e
  leaf-put z q a = put_as (sym (child-leaf z ∙ leaf-is)) (rw q a)
    where
      leaf-is : leaf_line ns i ++ 10 ∷ [] ≡ 45 ∷ 32 ∷ (written_name (get_or ns i []) ++ 10 ∷ [])
      leaf-is = unfold bytes in refl

  pub group-put : {c : ℕ} {q l u after : List ℕ} {at e f : ℕ} → (x ≡ 0 → ⊥) → c ≡ count ts x → q ≡ longer p last (branch_to c) → Put l at (branch_to c) u e
      → Put u e (drawn_text q (grown_lines ns ts s x x)) after f → Put l at (child_drawn ns ts s p last i x) after f
  group-put z e d a b = put_as (rw (d, e) (sym (child-inner z))) (put_then a b)

blanks : (w : List ℕ) → replicate (length w) 32 ≡ blank w
unfolding blank
blanks [] = refl
blanks (b ∷ w) = ap (λ (v : List ℕ). 32 ∷ v) (blanks w)

longer-as : (p : List ℕ) (last : Bool) (w : List ℕ) (n : ℕ) → n ≡ length w → p ++ (beside last ∷ replicate n 32) ≡ longer p last w
unfolding longer
longer-as p last w n e = rw (e, blanks w)

longer-length : (p : List ℕ) (last : Bool) (w : List ℕ) → length (longer p last w) ≡ length p + 1 + length w
unfolding longer blank
longer-length p last w = omega (arith, length-append p (beside last ∷ blank w), length-map {B = ℕ} w (λ (b : ℕ). 32))

-- the prefix, a byte below the branch, and blanks
pub longer-put : (last : Bool) (n : ℕ) {p l a u after : List ℕ} {b x : ℕ} → Put l 0 p a b → x ≡ beside last → u ≡ set a b x
    → Put u (b + 1) (replicate (b + 1 + n - (b + 1)) 32) after (b + 1 + n) → Put l 0 (p ++ (beside last ∷ replicate n 32)) after (b + 1 + n)
longer-put last n {b = b} c e d f =
    let m : b + 1 + n - (b + 1) ≡ n = omega arith in
    put_then c (put_then (put_one (rw e at d)) (rw m at f))

pub longer-taken : (p : List ℕ) (last : Bool) (c : ℕ) {l u old after : List ℕ} {at e n : ℕ} → Put l at (branch_to c) u e
    → Put old 0 (p ++ (beside last ∷ replicate (e - at) 32)) after n → n ≤ length old → take n after ≡ longer p last (branch_to c)
longer-taken p last c {old = old} {after} {at} {e} {n} a b h =
    put-taken old (p ++ (beside last ∷ replicate (e - at) 32)) after n b h ∙ longer-as p last (branch_to c) (e - at) (omega (arith, a.ends))

pub taken-length : (p : List ℕ) (last : Bool) (c : ℕ) {l u q : List ℕ} {at e : ℕ} → Put l at (branch_to c) u e → q ≡ longer p last (branch_to c)
    → length q + at ≡ length p + 1 + e
taken-length p last c a d = omega (arith, a.ends, ap length d, longer-length p last (branch_to c))

pub name-short : (n : ℕ) (ns : List (List ℕ)) (i : ℕ) (w : List ℕ) → good_names n ns ≡ true → i < n → get_or ns i [] ≡ w → length (written_name w) ≤ 66
name-short n ns i w g h q = rw q at (name-length (get_or ns i []) (good-name n ns g i (omega (arith, good-count n ns g))))

-- the prefix has at most 504 bytes
pub leaf-fits : (i x c : ℕ) (w : List ℕ) {l after : List ℕ} {at e : ℕ} → length (written_name w) ≤ 66 → x ≡ 0 → c + 8 * ones x + 8 ≤ 512
    → Put l at (45 ∷ 32 ∷ (written_name w ++ 10 ∷ [])) after e → e + c + 1 ≤ at + 600 * ones (child_mask i x)
leaf-fits i x c w m z f p =
    let o : ones (child_mask i x) ≡ 1 = ap ones (mask-leaf i x z) ∙ ones_bit i in
    omega (arith, p.ends, length-append (written_name w) (10 ∷ []))

-- ---- the branches of m that have the taxa r: the child of i and x, and those that have the taxa q

pub step-none : (ns ts : List (List ℕ)) (s p : List ℕ) (m r : ℕ) (l : List ℕ) (at : ℕ) → r ≡ 0 → Put l at (drawn_text p (grown_lines ns ts s m r)) l at
unfolding drawn_text
step-none ns ts s p m r l at z = rw (lines_none ts ns s m r z) (put-none l at)

below_none : (ls : List (List ℕ)) → ls ≡ [] → below ls ≡ beside true ∷ []
unfolding below beside
below_none ls e = ap below e

below-some : (ls : List (List ℕ)) → 0 < length ls → below ls ≡ beside false ∷ []
unfolding below beside
below-some [] h = absurd (omega arith)
below-some (l ∷ ls) h = refl

module _ {n : ℕ} {ns : List (List ℕ)} {s : List ℕ} {m r i x : ℕ} (k : Step n ns s m r i x) where
  pub step-within : (x ≡ 0 → ⊥) → Mem x s
  step-within f = go (rw k.wide (widest-from m i s))
    where
      go : (x ≡ 0) ⊎ (Mem x s × Fit m i x) → Mem x s
      go (inl z) = absurd (f z)
      go (inr w) = w.0

  pub step-prefix : (c : ℕ) → c + 8 * ones m ≤ 512 → c + 8 * ones x + 8 ≤ 512
  step-prefix c h = go (eqb x 0) refl
    where
      within : ones r ≤ ones m
      within = omega (arith, ones-part r m k.ready.inside)

      go : (b : Bool) → eqb x 0 ≡ b → c + 8 * ones x + 8 ≤ 512
      go true e = omega (arith, ap ones (eqb-true x 0 e) ∙ ones-zero, ones_pos r (positive k), within)
      go false e = omega (arith, child-ones k (eqb-false x 0 e), within)

  module _ {q : ℕ} (d : q ≡ without r (child_mask i x)) where
    pub step-ones : ones (child_mask i x) + ones q ≡ ones r
    step-ones = rw (d, without_sub r (child_mask i x) (child-sub k)) (ones-part (child_mask i x) r (child-sub k))

    module _ (ts : List (List ℕ)) (p : List ℕ) where
      text-child : (last : Bool) (rest : List (List ℕ)) → grown_lines ns ts s m (without r (child_mask i x)) ≡ rest → below rest ≡ beside last ∷ []
          → drawn_text p (grown_lines ns ts s m r) ≡ 43 ∷ (child_drawn ns ts s p last i x ++ each p rest)
      text-child last rest e b = go (eqb x 0) refl
        where
          one_line : (u l : List ℕ) → drawn_text u (l ∷ []) ≡ l ++ 10 ∷ []
          one_line u l = unfold drawn_text each in refl

          longer-is : (p ++ below rest) ++ blank (group_branch ts x) ≡ longer p last (group_branch ts x)
          longer-is = unfold longer in append_assoc p (below rest) (blank (group_branch ts x)) ∙ ap (λ (v : List ℕ). p ++ (v ++ blank (group_branch ts x))) b

          go : (t : Bool) → eqb x 0 ≡ t → drawn_text p (grown_lines ns ts s m r) ≡ 43 ∷ (child_drawn ns ts s p last i x ++ each p rest)
          go true t =
              let z = eqb-true x 0 t in
              ap (drawn_text p) (lines-leaf ts k z ∙ ap (branch (leaf_line ns i ∷ [])) e)
              ∙ text-branch p (leaf_line ns i ∷ []) rest (omega arith)
              ∙ ap (λ (v : List ℕ). 43 ∷ (v ++ each p rest)) (one_line (p ++ below rest) (leaf_line ns i) ∙ sym (child-leaf ns ts s p last i x z))
          go false t =
              let z = eqb-false x 0 t in
              let g = grown_lines ns ts s x x in
              let o = lines-some ts ((child-ok k).ready z) z in
              ap (drawn_text p) (lines-inner ts k z ∙ ap (branch (hung (group_branch ts x) (blank (group_branch ts x)) g)) e)
              ∙ text-branch p (hung (group_branch ts x) (blank (group_branch ts x)) g) rest (omega (arith, hung-length (group_branch ts x) (blank (group_branch ts x)) g, o))
              ∙ ap (λ (v : List ℕ). 43 ∷ (v ++ each p rest))
              (text-hung (p ++ below rest) (group_branch ts x) (blank (group_branch ts x)) g o
              ∙ ap (λ (v : List ℕ). group_branch ts x ++ drawn_text v g) longer-is
              ∙ sym (child-inner ns ts s p last i x z))

      text-last : q ≡ 0 → drawn_text p (grown_lines ns ts s m r) ≡ 43 ∷ child_drawn ns ts s p true i x
      unfolding each
      text-last z =
          let e : grown_lines ns ts s m q ≡ [] = lines_none ts ns s m q z in
          text-child true [] (rw d at e) (below_none [] refl)
          ∙ ap (λ (v : List ℕ). 43 ∷ v) (append-nil (child_drawn ns ts s p true i x))

      text-more : (q ≡ 0 → ⊥) → drawn_text p (grown_lines ns ts s m r) ≡ 43 ∷ (child_drawn ns ts s p false i x ++ (p ++ drawn_text p (grown_lines ns ts s m q)))
      text-more z =
          let g = grown_lines ns ts s m q in
          let o = lines-some ts (rest-ready k d) z in
          text-child false g (rw d) (below-some g o)
          ∙ ap (λ (v : List ℕ). 43 ∷ (child_drawn ns ts s p false i x ++ v)) (each_all p g o)

      pub step-last : {last : Bool} {l u after : List ℕ} {at e : ℕ} → last ≡ true → q ≡ 0 → u ≡ set l at 43
          → Put u (at + 1) (child_drawn ns ts s p last i x) after e → Put l at (drawn_text p (grown_lines ns ts s m r)) after e
      step-last t z a b = put_as (sym (text-last z)) (put_then (put_one a) (rw t at b))

      pub step-more : {last : Bool} {l u v w after : List ℕ} {at e b f : ℕ} → last ≡ false → (q ≡ 0 → ⊥) → u ≡ set l at 43
          → Put u (at + 1) (child_drawn ns ts s p last i x) v e → Put v e p w b → Put w b (drawn_text p (grown_lines ns ts s m q)) after f
          → Put l at (drawn_text p (grown_lines ns ts s m r)) after f
      step-more t z a b c g = put_as (sym (text-more z)) (put_then (put_one a) (put_then (rw t at b) (put_then c g)))
