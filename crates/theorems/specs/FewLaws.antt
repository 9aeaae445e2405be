-- A tree has few splits: an inner node has two children or more, so there are fewer inner nodes than leaves.
--
--   width-beside, leaves-beside     nodes side by side
--   none-missing       leaves without a fault have every taxon
--   leaves-count       and are as many as the names that are left
--   nothing-never, leaf-never       no taxa and a leaf are no splits
--   few-splits         the splits of a text are fewer than the names, by two at least
use Rattle.std.specs.Prelude.{ℕ, zero, suc, ◌+◌, ◌^◌, ◌≤◌, ◌≡◌, refl, ◌⊎◌, Bool, true, false, ltb, eqb, length, if◌then◌else◌}
use Rattle.std.proofs.Common.{arith, ap, sym, ◌∙◌, subst, inl, inr, eqb-true}
use mathlib.Core.List.{List, [], ◌∷◌, ◌++◌, append_assoc}
use Rattle.std.proofs.Math.Option.{Option, none, some}
use Rattle.std.specs.Int.Bits.{bit_or, bit_xor}
use Rattle.std.proofs.lemmas.Nat.{or_disjoint}
use Rattle.std.specs.Int.Count.{ones}
use Rattle.std.proofs.Math.ListN.{length-append}
use Rattle.trees.specs.Plain.{keep, Answer, refused, gives}
use Rattle.trees.specs.Text.{Symbol}
use Rattle.trees.specs.Mask.{every_taxon, side, proper}
use Rattle.trees.specs.Tree.{Nodes, nil, leaf, inner, beside, width, leaves, children}
use Rattle.trees.specs.Grammar.{IsNode, is_leaf, is-inner, IsNodes, is_one, is-more}
use Rattle.trees.specs.Names.{taxon_of}
use Rattle.trees.specs.Splits.{bit_of, taxon, taxa, clusters, insert, counted, splits_of}
use Rattle.trees.specs.Reading.{reading}
use Rattle.trees.specs.Verdict.{leaf_fault, judged}
use Rattle.theorems.specs.ListLaws.{keep_append, by-test}
use Rattle.theorems.specs.BitLaws.{On, Sub, on?, on-or-l, only-on, dis-and, less-add, off_zero}
use Rattle.theorems.specs.MaskLaws.{side-even}
use Rattle.theorems.specs.OnesLaws.{ones-zero, ones-part, ones_bit}
use Rattle.theorems.specs.ProperLaws.{every-ones, proper-two, one-taxon}
use Rattle.theorems.specs.SplitLaws.{taxon-sub}
use Rattle.theorems.specs.GrammarLaws.{reading-sound}
use Rattle.theorems.specs.VerdictLaws.{leaf-unknown, leaf-again, leaf-new, tree_by, tree-step, text_by, judged-step}

-- ---- nodes side by side

pub width-beside : (t k : Nodes) → width (beside t k) ≡ width t + width k
unfolding width beside
width-beside nil k = omega arith
width-beside (leaf w e r) k = omega (arith, width-beside r k)
width-beside (inner c e r) k = omega (arith, width-beside r k)

pub leaves-beside : (t k : Nodes) → leaves (beside t k) ≡ leaves t ++ leaves k
unfolding leaves beside
leaves-beside nil k = refl
leaves-beside (leaf w e r) k = ap (λ l. w ∷ l) (leaves-beside r k)
leaves-beside (inner c e r) k = ap (λ l. leaves c ++ l) (leaves-beside r k) ∙ sym (append_assoc (leaves c) (leaves r) (leaves k))

-- ---- leaves and taxa

pub none-missing : (seen n : ℕ) → ◌≡◌ {A = ℕ} (if eqb seen (every_taxon n) then 0 else 10) 0 → seen ≡ every_taxon n
none-missing seen n = go (eqb seen (every_taxon n)) refl
  where
    go : (b : Bool) → eqb seen (every_taxon n) ≡ b → ◌≡◌ {A = ℕ} (if b then 0 else 10) 0 → seen ≡ every_taxon n
    go true e q = eqb-true seen (every_taxon n) e
    go false e q = absurd (omega arith)

one_more : (seen i : ℕ) → (On seen i → ⊥) → ones (seen + 2 ^ i) ≡ ones seen + 1
one_more seen i f =
    let u : bit_or seen (2 ^ i) ≡ seen + 2 ^ i = or_disjoint seen (2 ^ i) (dis-and seen (2 ^ i) (λ j h k. f (subst (On seen) (sym (only-on i j k)) h))) in
    let s : Sub seen (seen + 2 ^ i) = subst (Sub seen) u (λ j h. on-or-l seen (2 ^ i) j h) in
    let x : bit_xor (seen + 2 ^ i) seen ≡ 2 ^ i = omega (arith, less-add (seen + 2 ^ i) seen s) in
    omega (arith, ones-part seen (seen + 2 ^ i) s, ap ones x, ones_bit i)

pub leaves-count : (ns : List (List ℕ)) (seen : ℕ) (ws : List (List ℕ)) → leaf_fault ns seen ws ≡ 0 → ones seen + length ws ≡ length ns
unfolding leaf_fault
leaves-count ns seen [] z = omega (arith, ap ones (none-missing seen (length ns) z), every-ones (length ns))
leaves-count ns seen (w ∷ ws) z = go (taxon_of ns w) refl (λ i. leaves-count ns (seen + 2 ^ i) ws)
  where
    new : (i : ℕ) → taxon_of ns w ≡ some i → (On seen i → ⊥) ⊎ On seen i → (leaf_fault ns (seen + 2 ^ i) ws ≡ 0 → ones (seen + 2 ^ i) + length ws ≡ length ns) → ones seen + suc (length ws) ≡ length ns
    new i e (inl f) q = omega (arith, q (sym (leaf-new ns seen w ws i e f) ∙ z), one_more seen i f)
    new i e (inr h) q = absurd (omega (arith, leaf-again ns seen w ws i e h))

    go : (o : Option ℕ) → taxon_of ns w ≡ o → ((i : ℕ) → leaf_fault ns (seen + 2 ^ i) ws ≡ 0 → ones (seen + 2 ^ i) + length ws ≡ length ns) → ones seen + suc (length ws) ≡ length ns
    go none e q = absurd (omega (arith, leaf-unknown ns seen w ws e))
    go (some i) e q = new i e (on? seen i) (q i)

-- ---- what never counts

pub nothing-never : (n m : ℕ) → side n m ≡ 0 → proper n (side n m) ≡ true → ⊥
nothing-never n m e p = omega (arith, proper-two n (side n m) p, ap ones e, ones-zero)

pub leaf-never : (ns : List (List ℕ)) (w : List ℕ) → proper (length ns) (side (length ns) (taxon ns w)) ≡ true → ⊥
unfolding taxon
leaf-never ns w p = go (taxon_of ns w) refl
  where
    go : (o : Option ℕ) → taxon_of ns w ≡ o → ⊥
    go none e = nothing-never (length ns) (taxon ns w) (ap (λ x. side (length ns) (bit_of x)) e ∙ side-even (length ns) 0 (off_zero 0)) p
    go (some i) e = one-taxon (length ns) (taxon ns w) (taxon-sub ns w) (ap (λ x. ones (bit_of x)) e ∙ ones_bit i) p

-- ---- inner nodes

unfoldable inners : Nodes → ℕ
inners nil = 0
inners (leaf w e r) = inners r
inners (inner c e r) = suc (inners c + inners r)

inners-beside : (t k : Nodes) → inners (beside t k) ≡ inners t + inners k
unfolding inners beside
inners-beside nil k = omega arith
inners-beside (leaf w e r) k = inners-beside r k
inners-beside (inner c e r) k = omega (arith, inners-beside r k)

abbrev Few : Nodes → Type 0
Few t = inners t + width t ≤ length (leaves t)

mutual
  unfolding inners width leaves

  node-few : {d : ℕ} {ss : List Symbol} {t : Nodes} → IsNode d ss t → Few t
  node-few (is_leaf e) = omega arith
  node-few (is-inner {c = c} z n h l e) = omega (arith, nodes-few n, length-append (leaves c) [])

  nodes-few : {d : ℕ} {ss : List Symbol} {t : Nodes} → IsNodes d ss t → Few t
  nodes-few (is_one n) = node-few n
  nodes-few (is-more {t = t} {k = k} y z n m) =
      subst Few (sym z)
      (omega
      (arith, inners-beside t k, width-beside t k, ap length (leaves-beside t k), length-append (leaves t) (leaves k), node-few n, nodes-few m))

-- ---- the splits that count

counts : ℕ → ℕ → Bool
counts n c = proper n (side n c)

insert-most : (m : ℕ) (l : List ℕ) → length (insert m l) ≤ suc (length l)
unfolding insert
insert-most m [] = omega arith
insert-most m (x ∷ l) = go (ltb m x) (eqb m x) (insert-most m l)
  where
    go : (a b : Bool) → length (insert m l) ≤ suc (length l)
        → length (if a then m ∷ x ∷ l else if b then x ∷ l else x ∷ insert m l) ≤ suc (suc (length l))
    go true b h = omega arith
    go false true h = omega arith
    go false false h = omega arith

counted-most : (n : ℕ) (cs : List ℕ) → length (counted n cs) ≤ length (keep (counts n) cs)
unfolding counted keep counts
counted-most n [] = omega arith
counted-most n (c ∷ cs) = go (proper n (side n c)) (counted-most n cs)
  where
    go : (b : Bool) → length (counted n cs) ≤ length (keep (counts n) cs)
        → length (if b then insert (side n c) (counted n cs) else counted n cs) ≤ length (if b then c ∷ keep (counts n) cs else keep (counts n) cs)
    go true h = omega (arith, insert-most (side n c) (counted n cs))
    go false h = h

keep-both : (p : ℕ → Bool) (a b : List ℕ) → length (keep p (a ++ b)) ≡ length (keep p a) + length (keep p b)
keep-both p a b = ap length (keep_append p a b) ∙ length-append (keep p a) (keep p b)

keep-more : (p : ℕ → Bool) (x : ℕ) (l : List ℕ) → length (keep p (x ∷ l)) ≤ suc (length (keep p l))
unfolding keep
keep-more p x l = by-test (λ (z : List ℕ). length z ≤ suc (length (keep p l))) (p x) (λ e. omega arith) (λ e. omega arith)

keep-not : (p : ℕ → Bool) (x : ℕ) (l : List ℕ) → (p x ≡ true → ⊥) → length (keep p (x ∷ l)) ≤ length (keep p l)
unfolding keep
keep-not p x l f = by-test (λ (z : List ℕ). length z ≤ length (keep p l)) (p x) (λ e. absurd (f e)) (λ e. omega arith)

clusters-most : (ns : List (List ℕ)) (t : Nodes) → length (keep (counts (length ns)) (clusters ns t)) ≤ inners t
unfolding clusters inners keep
clusters-most ns nil = omega arith
clusters-most ns (leaf w e r) =
    omega (arith, keep-not (counts (length ns)) (taxon ns w) (clusters ns r) (unfold counts in leaf-never ns w), clusters-most ns r)
clusters-most ns (inner c e r) =
    omega
    (arith, keep-both (counts (length ns)) (clusters ns c) (taxa ns c ∷ clusters ns r), keep-more (counts (length ns)) (taxa ns c) (clusters ns r), clusters-most ns c, clusters-most ns r)

-- ---- a whole text

splits-few : (ns : List (List ℕ)) {d : ℕ} {ss : List Symbol} {t : Nodes} → 2 ≤ length ns → IsNode d ss t → leaf_fault ns 0 (leaves t) ≡ 0
    → length (splits_of ns t) + 2 ≤ length ns
unfolding splits_of children clusters counted
splits-few ns g (is_leaf e) z = g
splits-few ns {t = t} g (is-inner {c = c} y n h l e) z =
    unfold leaves in
    omega
    (arith, counted-most (length ns) (clusters ns c), clusters-most ns c, nodes-few n, h, leaves-count ns 0 (leaves t) z, length-append (leaves c) [], ones-zero)

abbrev FewSplits : List (List ℕ) → Answer (List ℕ) → Type 0
FewSplits ns (refused k) = Unit {0}
FewSplits ns (gives l) = length l + 2 ≤ length ns

pub few-splits : (ns : List (List ℕ)) (s l : List ℕ) → 2 ≤ length ns → judged ns s ≡ gives l → length l + 2 ≤ length ns
few-splits ns s l g e = subst (FewSplits ns) (sym (judged-step ns s) ∙ e) (go (reading s) refl)
  where
    tree : (t : Nodes) → reading s ≡ some t → (k : ℕ) → leaf_fault ns 0 (leaves t) ≡ k → FewSplits ns (tree_by ns t k)
    tree t r zero q = splits-few ns g (reading-sound s t r) q
    tree t r (suc k) q = tt

    go : (o : Option Nodes) → reading s ≡ o → FewSplits ns (text_by ns o)
    go none r = tt
    go (some t) r = subst (FewSplits ns) (sym (tree-step ns t)) (tree t r (leaf_fault ns 0 (leaves t)) refl)
