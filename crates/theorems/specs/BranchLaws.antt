-- Laws of the branches of the tree made of splits, one branch at a time: what holds of the branches behind a branch, and of those below it,
-- holds with that branch.
--
--   lt-or-eq           at most is less or equal
--   label_of ns i       the label that taxon i is written as
--   extra x m          1 where taxon x is in the mask m, else 0
--   Closed s m r       every split below m lies within r or has nothing of it
--   Built ns s m r t   the nodes t have the taxa r; their clusters are single taxa and the splits below m within r
--   Wide s m r t       how many nodes stand side by side
--   Done ns s m r t    all of this, and: t can be read back, its leaves have no fault, and it is short
--   leaf-rest, lies    where the other splits lie: behind a leaf; within an inner node or away from it
--   nil-done           no branch
--   leaf-done          a leaf, where no split has the smallest taxon
--   inner-done         an inner node, where there is a widest split that has it
use Rattle.std.specs.Prelude.{ℕ, zero, suc, ◌+◌, ◌-◌, ◌*◌, ◌^◌, ◌≤◌, ◌<◌, ◌≡◌, refl, ◌⊎◌, Bool, true, false, List, [], ◌∷◌, ◌++◌, eqb, length, get_or, if◌then◌else◌}
use native.Mathlib.Omega.{arith}
use Rattle.std.proofs.Math.Pow.{pow_pos}
use Rattle.std.proofs.Math.Path.{ap, ap₂, sym}
use Rattle.std.proofs.Common.{◌∙◌, subst, append_assoc, eqb-true}
use Rattle.std.proofs.Math.Logic.{inl, inr}
use Rattle.std.proofs.Math.Option.{none, some}
use Rattle.std.specs.Int.Count.{ones}
use Rattle.std.specs.Int.Bits.{bit_or, bit_xor}
use Rattle.std.proofs.Math.ListN.{length-append}
use Rattle.std.proofs.lemmas.Bool.{eqb-false}
use Rattle.trees.specs.Mask.{has, every_taxon, proper}
use Rattle.trees.specs.Tree.{Nodes, nil, leaf, inner, width, leaves}
use Rattle.trees.specs.Text.{read_as}
use Rattle.trees.specs.Names.{taxon_of, good_names}
use Rattle.trees.specs.Splits.{taxa, taxon, clusters}
use Rattle.trees.specs.Verdict.{leaf_fault}
use Rattle.trees.specs.Written.{written_name, shown, parted}
use Rattle.trees.specs.Whole.{good_tree}
use Rattle.theorems.specs.ListLaws.{equal_or_not, by-test, if-true, if-false, Mem, mem-left, mem-right, mem-cases, every-at}
use Rattle.theorems.specs.BitLaws.{On, on?, Sub, Dis, off_zero, on_xor, self-on, only-on, sub-le, less-sub, less-dis, less-or, less-add, dis-more}
use Rattle.theorems.specs.OnesLaws.{ones-zero, ones-part, ones_bit, ones_lt, pos-of-ones}
use Rattle.theorems.specs.MaskLaws.{Ag, on-has, off-has, on_below}
use Rattle.theorems.specs.SplitLaws.{taxon-named, pairs-at}
use Rattle.theorems.specs.VerdictLaws.{leaf-new}
use Rattle.theorems.specs.ConsensusLaws.{good-proper, good-pairs}
use Rattle.theorems.specs.NameLaws.{good-count, good-name, name-found}
use Rattle.theorems.specs.WrittenNameLaws.{name-label, name-reads, name-length, quotes_at, other-shorter}
use Rattle.theorems.specs.ShownLaws.{Readable, readable-nil, readable-leaf, readable-inner}
use Rattle.theorems.specs.WidestLaws.{Fit}
use Rattle.theorems.specs.ProperLaws.{proper-even, proper-two}

-- ---- numbers

pub on-pos : (m i : ℕ) → On m i → 0 < m
on-pos zero i h = absurd (off_zero i h)
on-pos (suc m) i h = omega arith

pub lt-or-eq : {a b : ℕ} → a ≤ b → (a < b) ⊎ (a ≡ b)
lt-or-eq {a} {b} h = go (eqb a b) refl
  where
    go : (t : Bool) → eqb a b ≡ t → (a < b) ⊎ (a ≡ b)
    go true e = inr (eqb-true a b e)
    go false e = inl (omega (arith, eqb-false a b e))

pub parted-length : (t : Nodes) (l : List ℕ) → 1 ≤ width t → length (parted t l) ≡ suc (length l)
unfolding parted width
parted-length nil l h = absurd (omega arith)
parted-length (leaf w e r) l h = refl
parted-length (inner c e r) l h = refl

-- ---- a byte more for one taxon

unfoldable pub extra : ℕ → ℕ → ℕ
extra x m = if has m x then 1 else 0

pub extra-most : (x m : ℕ) → extra x m ≤ 1
unfolding extra
extra-most x m = by-test (λ (k : ℕ). k ≤ 1) (has m x) (λ e. omega arith) (λ e. omega arith)

extra-on : (x m : ℕ) → On m x → extra x m ≡ 1
unfolding extra
extra-on x m h = if-true 1 0 (on-has m x h)

extra-off : (x m : ℕ) → (On m x → ⊥) → extra x m ≡ 0
unfolding extra
extra-off x m h = if-false 1 0 (off-has m x h)

-- it is in a part of a mask, or in the rest
extra-part : (x y m : ℕ) → Sub y m → extra x y + extra x (bit_xor m y) ≡ extra x m
extra-part x y m h = go (on? y x) (on? m x)
  where
    go : (On y x → ⊥) ⊎ On y x → (On m x → ⊥) ⊎ On m x → extra x y + extra x (bit_xor m y) ≡ extra x m
    go (inr a) b = omega (arith, extra-on x y a, extra-on x m (h x a), extra-off x (bit_xor m y) (λ c. less-dis m y h x a c))
    go (inl a) (inr b) = omega (arith, extra-off x y a, extra-on x m b, extra-on x (bit_xor m y) (on_xor m y x b a))
    go (inl a) (inl b) = omega (arith, extra-off x y a, extra-off x m b, extra-off x (bit_xor m y) (λ c. b (less-sub m y h x c)))

-- ---- what holds of the branches t of the node m that have the taxa r

abbrev pub label_of : List (List ℕ) → ℕ → List ℕ
label_of ns i = written_name (get_or ns i [])

unfoldable pub Closed : List ℕ → ℕ → ℕ → Type 0
Closed s m r = (y : ℕ) → Mem y s → y < m → Sub y r ⊎ Dis y r

pub record Built (ns : List (List ℕ)) (s : List ℕ) (m r : ℕ) (t : Nodes) : Type 0 where
  pub masked : taxa ns t ≡ r
  pub sound : (y : ℕ) → Mem y (clusters ns t) → Mem y s ⊎ (ones y ≡ 1)
  pub complete : (y : ℕ) → Mem y s → y < m → Sub y r → Mem y (clusters ns t)

-- one node where there is a taxon; two where no split has all of the taxa, or taxon 0 is there, which no split has; three at the root
pub record Wide (s : List ℕ) (m r : ℕ) (t : Nodes) : Type 0 where
  pub one : 0 < r → 1 ≤ width t
  pub two : 2 ≤ ones r → ((y : ℕ) → Mem y s → y < m → Sub y r → ones y < ones r) → 2 ≤ width t
  pub first : 2 ≤ ones r → On r 0 → 2 ≤ width t
  pub three : 3 ≤ ones r → On r 0 → ((y : ℕ) → Mem y s → ones y + 2 ≤ ones r) → 3 ≤ width t

pub record Done (ns : List (List ℕ)) (s : List ℕ) (m r : ℕ) (t : Nodes) : Type 0 where
  pub built : Built ns s m r t
  pub wide : Wide s m r t
  pub readable : (d : ℕ) → ones m ≤ d + 2 → Readable d t
  pub faultless : (seen : ℕ) (ws : List (List ℕ)) → Dis seen r → leaf_fault ns seen (leaves t ++ ws) ≡ leaf_fault ns (seen + r) ws
  -- 68 bytes for each taxon: 65 of its label, a comma, and the brackets of an inner node, of which there are fewer than taxa by the width;
  -- and one more where the name of 32 apostrophes is
  pub short : length (parted t (shown t)) + 2 * width t ≤ 68 * ones r + extra (quotes_at ns) r

module _ (n : ℕ) (ns : List (List ℕ)) (s : List ℕ) (names : good_names n ns ≡ true) (good : good_tree n s ≡ true) where
  pub split-proper : (x : ℕ) → Mem x s → proper n x ≡ true
  split-proper x h = every-at (proper n) s (good-proper n s good) x h

  two-ones : (x : ℕ) → Mem x s → 2 ≤ ones x
  two-ones x h = proper-two n x (split-proper x h)

  no-first : (x : ℕ) → Mem x s → On x 0 → ⊥
  no-first x h = proper-even n x (split-proper x h)

  agreed : (x y : ℕ) → Mem x s → Mem y s → Ag x y
  agreed = pairs-at s (good-pairs n s good)

  -- a taxon has a name
  named : (i : ℕ) → On (every_taxon n) i → i < length ns
  unfolding every_taxon
  named i h = omega (arith, good-count n ns names, on_below n (2 ^ n - 1) i (omega (arith, pow_pos n)) h)

  named-label : (i : ℕ) → i < length ns → read_as (label_of ns i) ≡ get_or ns i []
  named-label i l = name-reads (get_or ns i []) (good-name n ns names i l)

  named-length : (i : ℕ) → i < length ns → length (label_of ns i) ≤ 65 + extra (quotes_at ns) (2 ^ i)
  named-length i l = go (equal_or_not i (quotes_at ns))
    where
      go : (i ≡ quotes_at ns) ⊎ (i ≡ quotes_at ns → ⊥) → length (label_of ns i) ≤ 65 + extra (quotes_at ns) (2 ^ i)
      go (inl e) = omega (arith, name-length (get_or ns i []) (good-name n ns names i l), extra-on (quotes_at ns) (2 ^ i) (subst (On (2 ^ i)) e (self-on i)))
      go (inr f) = omega (arith, other-shorter n ns names i l f)

  pub closed-self : (x : ℕ) → Mem x s → Closed s x x
  unfolding Closed
  closed-self x h y k l = go (agreed x y h k)
    where
      go : Ag x y → Sub y x ⊎ Dis y x
      go (inl d) = inr (λ i a b. d i b a)
      go (inr (inl p)) = absurd (omega (arith, sub-le x y p))
      go (inr (inr p)) = inl p

  -- ---- no taxa are left

  pub nil-done : (m r : ℕ) → r ≡ 0 → Done ns s m r nil
  unfolding taxa clusters width leaves parted shown
  nil-done m r e =
      let z : ones r ≡ 0 = ap ones e ∙ ones-zero in
      record {
        built = record { masked = sym e; sound = λ y h. absurd h; complete = λ y a b p. absurd (no-split y a (sub-le y r p)) };
        wide = record { one = λ h. absurd (omega arith); two = λ h f. absurd (omega arith); first = λ h o. absurd (omega arith); three = λ h o f. absurd (omega arith) };
        readable = λ d h. readable-nil;
        faultless = λ seen ws d. ap (λ (x : ℕ). leaf_fault ns x ws) (omega arith);
        short = omega arith;
      }
    where
      no-split : (y : ℕ) → Mem y s → y ≤ r → ⊥
      no-split y a l = let q : y ≡ 0 = omega arith in omega (arith, two-ones y a, ap ones q, ones-zero)

  -- ---- no split has the smallest taxon i: a leaf

  module _ (m r i : ℕ) (oi : On r i) (nofit : (y : ℕ) → Mem y s → Fit m i y → ⊥) (cl : Closed s m r) where
    pub leaf-within : Sub (2 ^ i) r
    leaf-within j h = subst (On r) (only-on i j h) oi

    leaf-ones : 1 + ones (bit_xor r (2 ^ i)) ≡ ones r
    leaf-ones = omega (arith, ones-part (2 ^ i) r leaf-within, ones_bit i)

    pub leaf-rest : (y : ℕ) → Mem y s → y < m → Sub y r → Sub y (bit_xor r (2 ^ i))
    leaf-rest y my l p j a = on_xor r (2 ^ i) j (p j a) (λ b. nofit y my (l, subst (On y) (sym (only-on i j b)) a))

    pub leaf-closed : Closed s m (bit_xor r (2 ^ i))
    unfolding Closed
    leaf-closed y my l = go (cl y my l)
      where
        go : Sub y r ⊎ Dis y r → Sub y (bit_xor r (2 ^ i)) ⊎ Dis y (bit_xor r (2 ^ i))
        go (inr d) = inr (λ j a b. d j a (less-sub r (2 ^ i) leaf-within j b))
        go (inl p) = inl (leaf-rest y my l p)

    module _ (t : Nodes) (rn : Sub r (every_taxon n)) (d : Done ns s m (bit_xor r (2 ^ i)) t) where
      leaf-named : i < length ns
      leaf-named = named i (rn i oi)

      leaf-found : taxon_of ns (label_of ns i) ≡ some i
      leaf-found = name-found n ns names i leaf-named (label_of ns i) (named-label i leaf-named)

      leaf-taxon : taxon ns (label_of ns i) ≡ 2 ^ i
      leaf-taxon = taxon-named ns (label_of ns i) i leaf-found

      leaf-built : Built ns s m r (leaf (label_of ns i) none t)
      unfolding taxa clusters
      leaf-built = record { masked = ap₂ bit_or leaf-taxon d.built.masked ∙ less-or r (2 ^ i) leaf-within; sound = from; complete = λ y a b p. inr (d.built.complete y a b (leaf-rest y a b p)) }
        where
          from : (y : ℕ) → (y ≡ taxon ns (label_of ns i)) ⊎ Mem y (clusters ns t) → Mem y s ⊎ (ones y ≡ 1)
          from y (inl e) = inr (ap ones (e ∙ leaf-taxon) ∙ ones_bit i)
          from y (inr h) = d.built.sound y h

      leaf-many : 2 ≤ ones r → 1 ≤ width t
      leaf-many h = d.wide.one (pos-of-ones (bit_xor r (2 ^ i)) (omega (arith, leaf-ones)))

      leaf-wide : Wide s m r (leaf (label_of ns i) none t)
      unfolding width
      leaf-wide = record {
        one = λ h. omega arith;
        two = λ h f. omega (arith, leaf-many h);
        first = λ h o. omega (arith, leaf-many h);
        three = λ h o f. let w = d.wide.two (omega (arith, leaf-ones)) (λ y a b p. omega (arith, f y a, leaf-ones)) in omega arith;
      }

      leaf-faultless : (seen : ℕ) (ws : List (List ℕ)) → Dis seen r → leaf_fault ns seen (leaves (leaf (label_of ns i) none t) ++ ws) ≡ leaf_fault ns (seen + r) ws
      unfolding leaves
      leaf-faultless seen ws x =
          leaf-new ns seen (label_of ns i) (leaves t ++ ws) i leaf-found (λ o. x i o oi)
          ∙ d.faultless (seen + 2 ^ i) ws (dis-more seen r (2 ^ i) leaf-within x) ∙ ap (λ (z : ℕ). leaf_fault ns z ws) (omega (arith, less-add r (2 ^ i) leaf-within))

      leaf-short : length (parted (leaf (label_of ns i) none t) (shown (leaf (label_of ns i) none t))) + 2 * width (leaf (label_of ns i) none t) ≤ 68 * ones r + extra (quotes_at ns) r
      unfolding parted shown width
      leaf-short = omega (arith, length-append (label_of ns i) (parted t (shown t)), named-length i leaf-named, d.short, leaf-ones, extra-part (quotes_at ns) (2 ^ i) r leaf-within)

      pub leaf-done : Done ns s m r (leaf (label_of ns i) none t)
      leaf-done = record {
        built = leaf-built;
        wide = leaf-wide;
        readable = λ e h. readable-leaf (name-label (get_or ns i []) (good-name n ns names i leaf-named)) (d.readable e h);
        faultless = leaf-faultless;
        short = leaf-short;
      }

  -- ---- x is the widest split that has the smallest taxon i: an inner node

  module _ (m r i x : ℕ) (oi : On r i) (mx : Mem x s) (fx : Fit m i x) (top : (y : ℕ) → Mem y s → Fit m i y → y ≤ x) (cl : Closed s m r) where
    pub inner-within : Sub x r
    unfolding Closed
    inner-within = go (cl x mx fx.0)
      where
        go : Sub x r ⊎ Dis x r → Sub x r
        go (inl p) = p
        go (inr d) = absurd (d i fx.1 oi)

    inner-ones : ones x + ones (bit_xor r x) ≡ ones r
    inner-ones = ones-part x r inner-within

    -- a split below m is within x, or away from it
    pub lies : (y : ℕ) → Mem y s → y < m → Sub y x ⊎ Dis y x
    lies y my l = go (agreed x y mx my)
      where
        go : Ag x y → Sub y x ⊎ Dis y x
        go (inl d) = inr (λ j a b. d j b a)
        go (inr (inl p)) = let e : y ≡ x = omega (arith, sub-le x y p, top y my (l, p i fx.1)) in inl (subst (λ (z : ℕ). Sub z x) (sym e) (λ j a. a))
        go (inr (inr p)) = inl p

    pub inner-closed : Closed s m (bit_xor r x)
    unfolding Closed
    inner-closed y my l = go (cl y my l) (lies y my l)
      where
        go : Sub y r ⊎ Dis y r → Sub y x ⊎ Dis y x → Sub y (bit_xor r x) ⊎ Dis y (bit_xor r x)
        go (inr d) q = inr (λ j a b. d j a (less-sub r x inner-within j b))
        go (inl p) (inl q) = inr (λ j a b. less-dis r x inner-within j (q j a) b)
        go (inl p) (inr q) = inl (λ j a. on_xor r x j (p j a) (q j a))

    module _ (k t : Nodes) (rm : Sub r m) (dk : Done ns s x x k) (dt : Done ns s m (bit_xor r x) t) where
      inner-built : Built ns s m r (inner k none t)
      unfolding taxa clusters
      inner-built = record {
        masked = ap₂ bit_or dk.built.masked dt.built.masked ∙ less-or r x inner-within;
        sound = λ y h. from y (mem-cases y (clusters ns k) (taxa ns k ∷ clusters ns t) h);
        complete = λ y a b p. into y a b p (lies y a b);
      }
        where
          from : (y : ℕ) → Mem y (clusters ns k) ⊎ Mem y (taxa ns k ∷ clusters ns t) → Mem y s ⊎ (ones y ≡ 1)
          from y (inl h) = dk.built.sound y h
          from y (inr (inl e)) = inl (subst (λ (z : ℕ). Mem z s) (sym (e ∙ dk.built.masked)) mx)
          from y (inr (inr h)) = dt.built.sound y h

          below : (y : ℕ) → Mem y s → Sub y x → (y < x) ⊎ (y ≡ x) → Mem y (clusters ns k ++ (taxa ns k ∷ clusters ns t))
          below y a p (inl l) = mem-left y (clusters ns k) (taxa ns k ∷ clusters ns t) (dk.built.complete y a l p)
          below y a p (inr e) = mem-right y (clusters ns k) (taxa ns k ∷ clusters ns t) (inl (e ∙ sym dk.built.masked))

          into : (y : ℕ) → Mem y s → y < m → Sub y r → Sub y x ⊎ Dis y x → Mem y (clusters ns k ++ (taxa ns k ∷ clusters ns t))
          into y a b p (inl q) = below y a q (lt-or-eq (sub-le y x q))
          into y a b p (inr q) = mem-right y (clusters ns k) (taxa ns k ∷ clusters ns t) (inr (dt.built.complete y a b (λ j o. on_xor r x j (p j o) (q j o))))

      -- taxon 0 stays
      inner_first : On r 0 → On (bit_xor r x) 0
      inner_first o = on_xor r x 0 o (no-first x mx)

      inner-wide : Wide s m r (inner k none t)
      unfolding width
      inner-wide = record {
        one = λ h. omega arith;
        two = λ h f. let w = dt.wide.one (pos-of-ones (bit_xor r x) (omega (arith, inner-ones, f x mx fx.0 inner-within))) in omega arith;
        first = λ h o. let w = dt.wide.one (on-pos (bit_xor r x) 0 (inner_first o)) in omega arith;
        three = λ h o f. let w = dt.wide.first (omega (arith, inner-ones, f x mx)) (inner_first o) in omega arith;
      }

      -- a node has two children or more
      inner-pair : 2 ≤ width k
      inner-pair = dk.wide.two (two-ones x mx) (λ y a l p. ones_lt y x p l)

      inner-readable : (d : ℕ) → ones m ≤ d + 2 → Readable d (inner k none t)
      inner-readable zero h = absurd (omega (arith, ones_lt x m (λ j u. rm j (inner-within j u)) fx.0, two-ones x mx))
      inner-readable (suc d) h = readable-inner inner-pair (dk.readable d (omega (arith, ones_lt x m (λ j u. rm j (inner-within j u)) fx.0))) (dt.readable (suc d) h)

      inner-faultless : (seen : ℕ) (ws : List (List ℕ)) → Dis seen r → leaf_fault ns seen (leaves (inner k none t) ++ ws) ≡ leaf_fault ns (seen + r) ws
      unfolding leaves
      inner-faultless seen ws d =
          ap (leaf_fault ns seen) (append_assoc (leaves k) (leaves t) ws) ∙ dk.faultless seen (leaves t ++ ws) (λ j u v. d j u (inner-within j v))
          ∙ dt.faultless (seen + x) ws (dis-more seen r x inner-within d) ∙ ap (λ (z : ℕ). leaf_fault ns z ws) (omega (arith, less-add r x inner-within))

      inner-short : length (parted (inner k none t) (shown (inner k none t))) + 2 * width (inner k none t) ≤ 68 * ones r + extra (quotes_at ns) r
      unfolding parted shown width
      inner-short = omega (arith, length-append (shown k) (41 ∷ parted t (shown t)), parted-length k (shown k) (omega (arith, inner-pair)), inner-pair, dk.short, dt.short, inner-ones, extra-part (quotes_at ns) x r inner-within)

      pub inner-done : Done ns s m r (inner k none t)
      inner-done = record { built = inner-built; wide = inner-wide; readable = inner-readable; faultless = inner-faultless; short = inner-short }
