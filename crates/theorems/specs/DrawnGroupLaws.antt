-- Each group of a tree is drawn once: on the branch to it stands how many trees have it.
--
--   groups_on ns t            the taxa of each inner node, from top to bottom
--   drawn-branches           what is drawn is what code finds by masks
--   groups-drawn-exactly     the groups on its branches are exactly the splits that it was made of
--   groups-drawn-once        and none stands on two branches
use Prim.Native.Nat.{ℕ, zero, suc, ◌+◌, ◌^◌, ◌≤◌, ◌<◌}
use Rattle.std.proofs.Common.{arith, pow_pos, ◌∙◌, inr, eqb-true}
use Rattle.std.specs.Prelude.{◌≡◌, ◌⊎◌, ◌↔◌, Bool, true, false, eqb, length}
use Rattle.std.proofs.Math.Path.{refl, ap, ap₂, sym, subst}
use Rattle.std.proofs.Math.Logic.{inl}
use mathlib.Core.List.{List, [], ◌∷◌, ◌++◌}
use Rattle.std.proofs.Math.Option.{none}
use Rattle.std.specs.Int.Bits.{bit_xor}
use Rattle.std.proofs.lemmas.Bool.{eqb-false}
use Rattle.trees.specs.Plain.{bytes}
use Rattle.trees.specs.Mask.{every_taxon, without, lowest}
use Rattle.trees.specs.Tree.{Nodes, nil, leaf, inner, children}
use Rattle.trees.specs.Names.{good_names}
use Rattle.trees.specs.Splits.{taxa}
use Rattle.trees.specs.Written.{widest, branches, tree_of}
use Rattle.trees.specs.Whole.{good_tree}
use Rattle.trees.specs.Drawn.{branch, picture, drawn}
use Rattle.theorems.specs.ListLaws.{Mem, mem-left, mem-right, mem-cases}
use Rattle.theorems.specs.BitLaws.{On, Sub, Dis, on_xor, sub-le, less-sub, less-dis, less-lt}
use Rattle.theorems.specs.OnesLaws.{pos-of-ones}
use Rattle.theorems.specs.MaskLaws.{without_sub}
use Rattle.theorems.specs.WidestLaws.{Fit, lowest-on, widest-from, widest-top}
use Rattle.theorems.specs.ProperLaws.{proper-two, proper-sub}
use Rattle.theorems.specs.NameLaws.{good-count}
use Rattle.theorems.specs.BranchLaws.{label_of, Closed, on-pos, lt-or-eq, split-proper, closed-self, leaf-within, leaf-rest, leaf-closed, inner-within, lies, inner-closed}
use Rattle.theorems.specs.TreeOfLaws.{branches_by, branches-step, Made, made}
use Rattle.theorems.specs.WrittenLaws.{split_below}
use Rattle.theorems.specs.InTurnLaws.{InTurn, turn-append}
use Rattle.theorems.specs.DrawnBranches.{grouped, drawn_branches, drawn_by, drawn-step}

unfoldable pub groups_on : List (List ℕ) → Nodes → List ℕ
groups_on ns nil = []
groups_on ns (leaf w e r) = groups_on ns r
groups_on ns (inner c e r) = taxa ns c ∷ (groups_on ns c ++ groups_on ns r)

abbrev Other : ℕ → ℕ → Type 0
Other x y = x ≡ y → ⊥

-- the lines ls, and the branches t of the node m that have the taxa r
record Pictured (ns ts : List (List ℕ)) (s : List ℕ) (m r : ℕ) (ls : List (List ℕ)) (t : Nodes) : Type 0 where
  same : ls ≡ picture ns ts t
  sound : (y : ℕ) → Mem y (groups_on ns t) → Mem y s × (y < m) × Sub y r
  complete : (y : ℕ) → Mem y s → y < m → Sub y r → Mem y (groups_on ns t)
  once : InTurn Other (groups_on ns t)

module _ (n : ℕ) (ns ts : List (List ℕ)) (s : List ℕ) (names : good_names n ns ≡ true) (good : good_tree n s ≡ true) where
  split-pos : (y : ℕ) → Mem y s → 0 < y
  split-pos y h = pos-of-ones y (omega (arith, proper-two n y (split-proper n ns s names good y h)))

  -- ---- one branch at a time

  nil-pictured : (m r : ℕ) → r ≡ 0 → Pictured ns ts s m r [] nil
  unfolding picture groups_on
  nil-pictured m r e = record { same = refl; sound = λ y h. absurd h; complete = λ y h l p. absurd (omega (arith, split-pos y h, sub-le y r p)); once = tt }

  module _ (m r i : ℕ) (oi : On r i) (nofit : (y : ℕ) → Mem y s → Fit m i y → ⊥) (cl : Closed s m r) where
    leaf-pictured : (ls : List (List ℕ)) (t : Nodes) → Pictured ns ts s m (bit_xor r (2 ^ i)) ls t
        → Pictured ns ts s m r (branch ((bytes "- " ++ label_of ns i) ∷ []) ls) (leaf (label_of ns i) none t)
    unfolding picture groups_on
    leaf-pictured ls t d = record {
      same = ap (branch ((bytes "- " ++ label_of ns i) ∷ [])) d.same;
      sound = λ y h. let q = d.sound y h in (q.0, q.1, λ j a. less-sub r (2 ^ i) (leaf-within n ns s names good m r i oi nofit cl) j (q.2 j a));
      complete = λ y h l p. d.complete y h l (leaf-rest n ns s names good m r i oi nofit cl y h l p);
      once = d.once;
    }

  module _ (m r i x : ℕ) (oi : On r i) (mx : Mem x s) (fx : Fit m i x) (top : (y : ℕ) → Mem y s → Fit m i y → y ≤ x) (cl : Closed s m r) where
    within : Sub x r
    within = inner-within n ns s names good m r i x oi mx fx top cl

    module _ (ls ks : List (List ℕ)) (k t : Nodes) (masked : taxa ns k ≡ x) (dk : Pictured ns ts s x x ls k) (dt : Pictured ns ts s m (bit_xor r x) ks t) where
      groups-sound : (y : ℕ) → (y ≡ taxa ns k) ⊎ Mem y (groups_on ns k ++ groups_on ns t) → Mem y s × (y < m) × Sub y r
      groups-sound y (inl e) = subst (λ (z : ℕ). Mem z s × (z < m) × Sub z r) (sym (e ∙ masked)) (mx, fx.0, within)
      groups-sound y (inr h) = go (mem-cases y (groups_on ns k) (groups_on ns t) h)
        where
          go : Mem y (groups_on ns k) ⊎ Mem y (groups_on ns t) → Mem y s × (y < m) × Sub y r
          go (inl a) = let q = dk.sound y a in (q.0, omega (arith, q.1, fx.0), λ j o. within j (q.2 j o))
          go (inr a) = let q = dt.sound y a in (q.0, q.1, λ j o. less-sub r x within j (q.2 j o))

      groups-complete : (y : ℕ) → Mem y s → y < m → Sub y r → (y ≡ taxa ns k) ⊎ Mem y (groups_on ns k ++ groups_on ns t)
      groups-complete y h l p = go (lies n ns s names good m r i x oi mx fx top cl y h l)
        where
          inside : Sub y x → (y < x) ⊎ (y ≡ x) → (y ≡ taxa ns k) ⊎ Mem y (groups_on ns k ++ groups_on ns t)
          inside q (inl b) = inr (mem-left y (groups_on ns k) (groups_on ns t) (dk.complete y h b q))
          inside q (inr e) = inl (e ∙ sym masked)

          go : Sub y x ⊎ Dis y x → (y ≡ taxa ns k) ⊎ Mem y (groups_on ns k ++ groups_on ns t)
          go (inl q) = inside q (lt-or-eq (sub-le y x q))
          go (inr q) = inr (mem-right y (groups_on ns k) (groups_on ns t) (dt.complete y h l (λ j o. on_xor r x j (p j o) (q j o))))

      -- what lies within x and in the rest too is no split
      groups-apart : (y : ℕ) → Mem y s → Sub y x → Sub y (bit_xor r x) → ⊥
      groups-apart y h p q = let o = lowest-on y (split-pos y h) in less-dis r x within (lowest y) (p (lowest y) o) (q (lowest y) o)

      groups-once : InTurn Other (taxa ns k ∷ (groups_on ns k ++ groups_on ns t))
      groups-once =
          (λ y h. first y (mem-cases y (groups_on ns k) (groups_on ns t) h), turn-append Other (groups_on ns k) (groups_on ns t) dk.once dt.once between)
        where
          first : (y : ℕ) → Mem y (groups_on ns k) ⊎ Mem y (groups_on ns t) → taxa ns k ≡ y → ⊥
          first y (inl a) e = omega (arith, (dk.sound y a).1, sym e ∙ masked)
          first y (inr a) e = groups-apart x mx (λ j o. o) (subst (λ (z : ℕ). Sub z (bit_xor r x)) (sym e ∙ masked) (dt.sound y a).2)

          between : (y z : ℕ) → Mem y (groups_on ns k) → Mem z (groups_on ns t) → y ≡ z → ⊥
          between y z a b e = let q = dk.sound y a in groups-apart y q.0 q.2 (subst (λ (u : ℕ). Sub u (bit_xor r x)) (sym e) (dt.sound z b).2)

      inner-pictured : Pictured ns ts s m r (grouped ts x ls ks) (inner k none t)
      unfolding picture groups_on
      inner-pictured = record {
        same = ap (λ (z : ℕ). grouped ts z ls ks) (sym masked) ∙ ap₂ (grouped ts (taxa ns k)) dk.same dt.same;
        sound = groups-sound;
        complete = groups-complete;
        once = groups-once;
      }

  -- ---- all of them

  unfoldable Drew : ℕ → Type 0
  Drew f = (m r : ℕ) → m + r < f → Sub r m → Sub r (every_taxon n) → Closed s m r → Pictured ns ts s m r (drawn_branches f ns ts s m r) (branches f ns s m r)

  -- the children behind the one with the taxa x
  drew-rest : (f m r x : ℕ) → Drew f → m + r < suc f → Sub r m → Sub r (every_taxon n) → Sub x r → 0 < x → Closed s m (bit_xor r x)
      → Pictured ns ts s m (bit_xor r x) (drawn_branches f ns ts s m (without r x)) (branches f ns s m (without r x))
  unfolding Drew
  drew-rest f m r x ih h rm rn wi p cl =
      subst (λ (z : ℕ). Pictured ns ts s m (bit_xor r x) (drawn_branches f ns ts s m z) (branches f ns s m z)) (sym (without_sub r x wi))
      (ih m (bit_xor r x) (omega (arith, less-lt r x wi p)) (λ j a. rm j (less-sub r x wi j a)) (λ j a. rn j (less-sub r x wi j a)) cl)

  module _ (f m r i x : ℕ) (ih : Drew f) (h : m + r < suc f) (rm : Sub r m) (rn : Sub r (every_taxon n)) (cl : Closed s m r) (oi : On r i) (top : (y : ℕ) → Mem y s → Fit m i y → y ≤ x) where
    drew-leaf : x ≡ 0 → Pictured ns ts s m r (drawn_by ns ts s false true f m r i x) (branches_by false true f ns s m r i x)
    drew-leaf z =
        leaf-pictured m r i oi nofit cl (drawn_branches f ns ts s m (without r (2 ^ i))) (branches f ns s m (without r (2 ^ i)))
        (drew-rest f m r (2 ^ i) ih h rm rn (leaf-within n ns s names good m r i oi nofit cl) (pow_pos i) (leaf-closed n ns s names good m r i oi nofit cl))
      where
        nofit : (y : ℕ) → Mem y s → Fit m i y → ⊥
        nofit y a b = omega (arith, top y a b, on-pos y i b.1)

    drew-inner : Mem x s → Fit m i x → Pictured ns ts s m r (drawn_by ns ts s false false f m r i x) (branches_by false false f ns s m r i x)
    unfolding Drew Made
    drew-inner mx fx =
        let wi : Sub x r = within m r i x oi mx fx top cl in
        let few : x + x < f = omega (arith, fx.0, sub-le x r wi) in
        inner-pictured m r i x oi mx fx top cl (drawn_branches f ns ts s x x) (drawn_branches f ns ts s m (without r x)) (branches f ns s x x) (branches f ns s m (without r x))
        (made n ns s names good f x x few (λ j a. a) (λ j a. rn j (wi j a)) (closed-self n ns s names good x mx)).built.masked
        (ih x x few (λ j a. a) (λ j a. rn j (wi j a)) (closed-self n ns s names good x mx))
        (drew-rest f m r x ih h rm rn wi (on-pos x i fx.1) (inner-closed n ns s names good m r i x oi mx fx top cl))

  drew-by : (f m r i x : ℕ) → Drew f → m + r < suc f → Sub r m → Sub r (every_taxon n) → Closed s m r → (0 < r → On r i) → ((y : ℕ) → Mem y s → Fit m i y → y ≤ x) → (x ≡ 0) ⊎ (Mem x s × Fit m i x)
      → (b c : Bool) → eqb r 0 ≡ b → eqb x 0 ≡ c → Pictured ns ts s m r (drawn_by ns ts s b c f m r i x) (branches_by b c f ns s m r i x)
  drew-by f m r i x ih h rm rn cl oi top w true c p q = nil-pictured m r (eqb-true r 0 p)
  drew-by f m r i x ih h rm rn cl oi top w false true p q = drew-leaf f m r i x ih h rm rn cl (oi (omega (arith, eqb-false r 0 p))) top (eqb-true x 0 q)
  drew-by f m r i x ih h rm rn cl oi top (inl z) false false p q = absurd (eqb-false x 0 q z)
  drew-by f m r i x ih h rm rn cl oi top (inr w) false false p q = drew-inner f m r i x ih h rm rn cl (oi (omega (arith, eqb-false r 0 p))) top w.0 w.1

  drew : (f : ℕ) → Drew f
  unfolding Drew
  drew zero m r h rm rn cl = absurd (omega arith)
  drew (suc f) m r h rm rn cl =
      let i = lowest r in
      let x = widest m i s in
      subst (λ (ls : List (List ℕ)). Pictured ns ts s m r ls (branches (suc f) ns s m r)) (sym (drawn-step ns ts s f m r))
      (subst (Pictured ns ts s m r (drawn_by ns ts s (eqb r 0) (eqb x 0) f m r i x)) (sym (branches-step f ns s m r))
      (drew-by f m r i x (drew f) h rm rn cl (lowest-on r) (widest-top m i s) (widest-from m i s) (eqb r 0) (eqb x 0) refl refl))

  -- ---- the written tree

  abbrev all : ℕ
  all = every_taxon (length ns)

  root-pictured : Pictured ns ts s (every_taxon n) (every_taxon n) (drawn_branches (suc (all + all)) ns ts s all all) (children (tree_of ns s))
  unfolding Drew Closed tree_of children
  root-pictured =
      subst (λ (k : ℕ). Pictured ns ts s (every_taxon n) (every_taxon n) (drawn_branches (suc (every_taxon k + every_taxon k)) ns ts s (every_taxon k) (every_taxon k)) (branches (suc (every_taxon k + every_taxon k)) ns s (every_taxon k) (every_taxon k)))
      (sym (good-count n ns names))
      (drew (suc (every_taxon n + every_taxon n)) (every_taxon n) (every_taxon n) (omega arith) (λ i h. h) (λ i h. h) (λ y h l. inl (proper-sub n y (split-proper n ns s names good y h))))

  pub drawn-branches : drawn ns ts s ≡ drawn_branches (suc (every_taxon (length ns) + every_taxon (length ns))) ns ts s (every_taxon (length ns)) (every_taxon (length ns))
  unfolding drawn
  drawn-branches = sym root-pictured.same

  pub groups-drawn-exactly : (m : ℕ) → Mem m (groups_on ns (children (tree_of ns s))) ↔ Mem m s
  groups-drawn-exactly m =
      (λ h. (root-pictured.sound m h).0, λ h. root-pictured.complete m h (split_below n ns s names good m h) (proper-sub n m (split-proper n ns s names good m h)))

  pub groups-drawn-once : InTurn (λ x y. x ≡ y → ⊥) (groups_on ns (children (tree_of ns s)))
  groups-drawn-once = root-pictured.once
