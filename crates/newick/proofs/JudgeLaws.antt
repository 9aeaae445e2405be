-- The verdict on a text, over a prepared head: one law for each way out of `read_leaves`, `read_tree`, `judge` and `judge_shape`.
--
--   read-wrong          a leaf is no taxon, or a taxon comes twice
--   read-missing        a taxon is missing
--   read-sound          no leaf has a fault, and no taxon is missing: the spans are in order
--   read_none           the text is no tree
--   judged-faulty, judged-splits     the verdict; the splits of the spans are those of the text
use Rattle.std.proofs.Common.{◌≡◌, ℕ, zero, suc, ◌+◌, ◌*◌, ◌^◌, ◌<◌, ◌≤◌, min, eqb, List, [], ◌∷◌, ◌++◌, length, get_or, take, drop, sym, refl, ap, ◌∙◌, subst, ap₂, append-nil, zero-add, arith, length-append, take-append-drop, take_all, eq-eqb, ne_eqb}
use mathlib.Core.Option.{none, some}
use lib.Count.{ones}
use lib.Seq.{sets-eq, take-append_seam}
use Rattle.std.specs.Prelude.{if◌then◌else◌, Result, Ok, Err, ℕ}
use Rattle.trees.specs.Plain.{refused, gives}
use Rattle.trees.specs.Mask.{every_taxon}
use Rattle.trees.specs.Tree.{Nodes, nil, leaf, leaves}
use Rattle.trees.specs.Reading.{reading}
use Rattle.trees.specs.Splits.{taxa, counted, splits_of}
use Rattle.trees.specs.Opening.{Opening}
use Rattle.trees.specs.Verdict.{leaf_fault, judged}
use Rattle.theorems.specs.ListLaws.{if-true, if-false}
use Rattle.theorems.specs.BitLaws.{Dis}
use Rattle.theorems.specs.MaskLaws.{below_sub}
use Rattle.theorems.specs.OnesLaws.{ones-part}
use Rattle.theorems.specs.ProperLaws.{every-ones}
use Rattle.theorems.specs.FewLaws.{none-missing}
use Rattle.theorems.specs.OpeningLaws.{GoodOpening}
use Rattle.theorems.specs.GrammarLaws.{reading-sound}
use Rattle.theorems.specs.VerdictLaws.{judged-step, tree-step, leaves-distinct}
use Rattle.answers.specs.Answers.{refusal_number}
use Rattle.answers.specs.declared.Refusal.{Refusal}
use Rattle.answers.specs.declared.Refusal.TheVariants as why
use Rattle.records.specs.Records.{wide, with_records}
use Rattle.head.specs.Head.{numbers_at, opening_at}
use Rattle.newick.specs.Judge.{JudgedAs}
use Rattle.newick.specs.Splits.{inners}
use Rattle.newick.specs.Sound.{SoundTree, span_room, TreeRead}
use Rattle.newick.specs.Shape.{spans, ShapeRead}
use Rattle.newick.specs.Shaping.{Shaping}
use Rattle.newick.specs.Running.{labels_at, label_taxa, span_masks}
use Rattle.newick.specs.Leaves.{most_leaves, AllSummed, LeavesSummed}
use Rattle.newick.specs.declared.shape.Mark.{Mark}
use Rattle.newick.proofs.ClusterLaws.{inners-splits}
use Rattle.newick.proofs.LabelLaws.{leaves-taxa}
use Rattle.newick.proofs.SpanLaws.{inner_nodes, Lies, spans-length, spans-few, spans-within, spans-inners}

-- ---- the verdict by what is read

unread : (ns : List (List ℕ)) (s : List ℕ) → reading s ≡ none → judged ns s ≡ refused 7
unread ns s e = rw e at (judged-step ns s)

faulty : (ns : List (List ℕ)) (s : List ℕ) (t : Nodes) (k : ℕ) → 0 < k → reading s ≡ some t → leaf_fault ns 0 (leaves t) ≡ k → judged ns s ≡ refused k
faulty ns s t zero h e f = absurd (omega arith)
faulty ns s t (suc k) h e f = rw e at (judged-step ns s) ∙ rw f at (tree-step ns t)

faultless : (ns : List (List ℕ)) (s : List ℕ) (t : Nodes) → reading s ≡ some t → leaf_fault ns 0 (leaves t) ≡ 0 → judged ns s ≡ gives (splits_of ns t)
faultless ns s t e f = rw e at (judged-step ns s) ∙ rw f at (tree-step ns t)

some_number : (r : Refusal) → 0 < refusal_number r
unfolding refusal_number
some_number why.NotWhole = omega arith
some_number why.OutOfRange = omega arith
some_number why.BadNames = omega arith
some_number why.TooShort = omega arith
some_number why.NoLane = omega arith
some_number why.TooLong = omega arith
some_number why.BadForm = omega arith
some_number why.UnknownLeaf = omega arith
some_number why.RepeatedLeaf = omega arith
some_number why.MissingTaxon = omega arith
some_number why.NoTreeRoom = omega arith
some_number why.NoSplitRoom = omega arith
some_number why.NoSuchNumber = omega arith
some_number why.NoTrees = omega arith
some_number why.BadBlock = omega arith
some_number why.RepeatedKey = omega arith
some_number why.InexactLength = omega arith
some_number why.NoLength = omega arith
some_number why.BadLength = omega arith
some_number why.BadRecord = omega arith
some_number why.EmptyFile = omega arith
some_number why.SumTooLarge = omega arith
some_number why.Disagreeing = omega arith
some_number why.BadMatrix = omega arith
some_number why.NotSymmetric = omega arith

-- leaves without a fault: their taxa are all taxa
all_seen : (ns : List (List ℕ)) (t : Nodes) → leaf_fault ns 0 (leaves t) ≡ 0 → taxa ns t ≡ every_taxon (length ns)
unfolding leaf_fault
all_seen ns t z =
    let d = leaves-distinct ns t 0 [] (ap (leaf_fault ns 0) (append-nil (leaves t)) ∙ z) in
    sym (zero-add (taxa ns t)) ∙ none-missing (0 + taxa ns t) (length ns) d.2

-- ---- labels of different taxa

-- the leaves with the labels ws, side by side
unfoldable flat : List (List ℕ) → Nodes
flat [] = nil
flat (w ∷ ws) = leaf w none (flat ws)

flat-leaves : (ws : List (List ℕ)) → leaves (flat ws) ≡ ws
unfolding flat leaves
flat-leaves [] = refl
flat-leaves (w ∷ ws) = ap (λ r. w ∷ r) (flat-leaves ws)

-- behind leaves with the taxa seen, labels without a fault name others
labels_apart : (ns : List (List ℕ)) (seen : ℕ) (ws zs : List (List ℕ)) → leaf_fault ns seen (ws ++ zs) ≡ 0
    → Dis seen (label_taxa ns ws) × (leaf_fault ns (seen + label_taxa ns ws) zs ≡ 0)
labels_apart ns seen ws zs z =
    let e : taxa ns (flat ws) ≡ label_taxa ns ws = sym (leaves-taxa ns (flat ws)) ∙ ap (label_taxa ns) (flat-leaves ws) in
    let d = leaves-distinct ns (flat ws) seen zs (ap (λ l. leaf_fault ns seen (l ++ zs)) (flat-leaves ws) ∙ z) in
    (rw e at d.0, rw e at d.2)

parts-apart : (ns xs vs zs : List (List ℕ)) → leaf_fault ns 0 (xs ++ (vs ++ zs)) ≡ 0 → Dis (label_taxa ns xs) (label_taxa ns vs)
parts-apart ns xs vs zs z =
    let a = labels_apart ns 0 xs (vs ++ zs) z in
    rw (zero-add (label_taxa ns xs)) at (labels_apart ns (0 + label_taxa ns xs) vs zs a.1).0

ones-most : (n m : ℕ) → m < 2 ^ n → ones m ≤ n
ones-most n m h = omega (arith, ones-part m (every_taxon n) (below_sub n m h), every-ones n)

-- ---- a tree whose shape was read: its first k leaves are judged, which are all, or more than there are taxa

module _ (o : Opening) (g : GoodOpening o) (s w : List ℕ) (leaved : ℕ) (l : List ℕ) (n : ℕ) (m : List ℕ) (x : Shaping s w leaved l n m) (k : ℕ) (few : k ≡ min leaved most_leaves) (u : List ℕ) where
  first : (j : ℕ) → j ≤ k → labels_at w l j ≡ take j (leaves x.tree)
  first j h = x.first j (omega arith)

  leaves-are : leaves x.tree ≡ labels_at w l k ++ drop k (leaves x.tree)
  leaves-are = sym (ap (λ z. z ++ drop k (leaves x.tree)) (first k (omega arith)) ∙ take-append-drop k (leaves x.tree))

  module _ (f : Result (Unit {0}) Refusal) (p : LeavesSummed o w l k u f) where
    pub read-wrong : (r : Refusal) → f ≡ Err r → TreeRead o s (Err r) u m m
    unfolding TreeRead LeavesSummed
    read-wrong r e =
        faulty o.names s x.tree (refusal_number r) (some_number r) x.reads
        (ap (leaf_fault o.names 0) leaves-are ∙ (rw e at p) (drop k (leaves x.tree)))

    module _ (e : f ≡ Ok tt) where
      summed : AllSummed o w l k u
      unfolding LeavesSummed
      summed = rw e at p

      some-taxa : k ≤ 64
      some-taxa =
          omega
          (arith, summed.count, g.ranges.most-taxa, ones-most o.numbers.taxa _ (rw (summed.masked k (omega arith)) at (summed.running.each k (omega arith)).small))

      all-leaves : k ≡ length (leaves x.tree)
      all-leaves = let b = some-taxa in omega (arith, x.count)

      labels-are : labels_at w l k ≡ leaves x.tree
      labels-are = let b = all-leaves in first k (omega arith) ∙ take_all k (leaves x.tree) (omega arith)

      leaf-fault : leaf_fault o.names 0 (leaves x.tree) ≡ (if eqb (get_or u (wide * k) 0) (every_taxon o.numbers.taxa) then 0 else 10)
      unfolding leaf_fault
      leaf-fault =
          ap (leaf_fault o.names 0) (sym (append-nil (leaves x.tree)) ∙ ap (λ z. z ++ []) (sym labels-are))
          ∙ summed.judged []
          ∙ ap₂ (λ (y i : ℕ). if eqb y (every_taxon i) then 0 else 10) (sym (summed.masked k (omega arith))) g.named.count

      pub read-missing : (get_or u (wide * k) 0 ≡ every_taxon o.numbers.taxa → ⊥) → TreeRead o s (Err why.MissingTaxon) u m m
      unfolding TreeRead refusal_number
      read-missing h =
          faulty o.names s x.tree 10 (omega arith) x.reads (leaf-fault ∙ if-false 0 10 (ne_eqb (get_or u (wide * k) 0) (every_taxon o.numbers.taxa) h))

      module _ (every : get_or u (wide * k) 0 ≡ every_taxon o.numbers.taxa) where
        no-fault : leaf_fault o.names 0 (leaves x.tree) ≡ 0
        no-fault = leaf-fault ∙ if-true 0 10 (eq-eqb (get_or u (wide * k) 0) (every_taxon o.numbers.taxa) every)

        count : n ≡ inner_nodes x.tree
        count = omega (arith, x.nested, spans-length 0 x.tree)

        fits : 2 * n ≤ 128
        fits = omega (arith, spans-few (reading-sound s x.tree x.reads), count, all-leaves, some-taxa)

        lie : m ≡ spans 0 x.tree ++ drop (0 + length (spans 0 x.tree)) x.before
        lie = let b = fits in x.spanned ∙ sets-eq (spans 0 x.tree) x.before 0 (omega (arith, x.nested, x.room))

        gathering-lies : (j : ℕ) → j < n → Lies m k j
        gathering-lies j h =
            let q = spans-within m 0 x.tree [] (drop (0 + length (spans 0 x.tree)) x.before) 0 refl lie j (omega arith) (omega (arith, count)) in
            (q.0, omega (arith, q.1, all-leaves))

        masked : (xs zs : List (List ℕ)) → leaves x.tree ≡ xs ++ zs → get_or u (wide * length xs) 0 ≡ label_taxa o.names xs
        masked xs zs q =
            let b : length xs ≤ k = omega (arith, all-leaves, ap length q, length-append xs zs) in
            summed.masked (length xs) b ∙ ap (label_taxa o.names) (first (length xs) b ∙ ap (take (length xs)) q ∙ take-append_seam xs zs)

        tree-masks : span_masks u m n ≡ inners o.names x.tree
        tree-masks =
            ap (span_masks u m) count
            ∙ spans-inners o.names x.tree u m (drop (0 + length (spans 0 x.tree)) x.before) lie masked
            (λ xs vs zs q. parts-apart o.names xs vs zs (ap (leaf_fault o.names 0) (sym q) ∙ no-fault))

        pub read-sound : TreeRead o s (Ok (k, n)) u m m
        unfolding TreeRead
        read-sound _ = record {
          tree = x.tree;
          reads = x.reads;
          no-fault = no-fault;
          sums = (some-taxa, summed.running, every);
          spans = (let b = fits in omega arith, record { rises = λ j h. (gathering-lies j h).0; within = λ j h. (gathering-lies j h).1 });
          masks = tree-masks;
        }

-- ---- a text, by what was read of its shape

pub read_none : (o : Opening) (s : List ℕ) (c : Mark) (tokens nodes tokens' nodes' : List ℕ) → ShapeRead s c tokens nodes tokens' nodes' → length s < c.at
    → (u l l' : List ℕ) → TreeRead o s (Err why.BadForm) u l l'
unfolding TreeRead refusal_number
read_none o s c tokens nodes tokens' nodes' h b u l l' = unread o.names s (h.fault b)

-- ---- from there to the verdict

module _ (o : Opening) (s u l₀ l : List ℕ) (t : Result (ℕ × ℕ) Refusal) (p : TreeRead o s t u l₀ l) where
  pub judged-faulty : (r : Refusal) → t ≡ Err r → (v : List ℕ) → JudgedAs o s (Err r) v v
  unfolding TreeRead JudgedAs
  judged-faulty r e v = (subst (λ z. TreeRead o s z u l₀ l) e p, refl)

  pub sound-read : (k n : ℕ) → t ≡ Ok (k, n) → length l₀ ≡ span_room → SoundTree o s k n u l
  unfolding TreeRead
  sound-read k n e = subst (λ z. TreeRead o s z u l₀ l) e p

module _ (o : Opening) (s u l : List ℕ) where
  module _ (g : GoodOpening o) (k n : ℕ) (w : SoundTree o s k n u l) where
    pub sound-splits : counted o.numbers.taxa (span_masks u l n) ≡ splits_of o.names w.tree
    sound-splits =
        ap₂ counted (sym g.named.count) w.masks
        ∙ inners-splits o g (reading-sound s w.tree w.reads) (all_seen o.names w.tree w.no-fault)

    pub sound-judged : judged o.names s ≡ gives (splits_of o.names w.tree)
    sound-judged = faultless o.names s w.tree w.reads w.no-fault

    pub judged-splits : (i : ℕ) (v t : List ℕ)
        → (i ≡ length (counted o.numbers.taxa (span_masks u l n))) × (t ≡ with_records o (counted o.numbers.taxa (span_masks u l n)) v)
        → JudgedAs o s (Ok i) v t
    unfolding JudgedAs
    judged-splits i v t p = (counted o.numbers.taxa (span_masks u l n), sound-judged ∙ ap gives (sym sound-splits), p.0, p.1)

pub every-taxon-here : (h : List ℕ) (n r : ℕ) → n ≡ (numbers_at h).taxa → r ≡ every_taxon n → r ≡ every_taxon (opening_at h).numbers.taxa
unfolding opening_at
every-taxon-here h n r e q = q ∙ ap every_taxon e
