-- The loop of `sum_leaves`: what holds behind some of the leaves.
--
--   Summing                      behind j leaves without a fault, which have the sums x: records 0 to j of u are of the first leaves
--   summing-none, summing-more   no leaf, and one more
--   summing-wrong                a leaf with a fault
--   summing-done                 all leaves
use Rattle.std.specs.Prelude.{Result, Ok, Err}
use Rattle.std.proofs.Common.{◌≡◌, ℕ, suc, ◌+◌, ◌*◌, ◌%◌, ◌^◌, ◌<◌, ◌≤◌, Bool, true, false, leb, List, [], ◌∷◌, ◌++◌, length, get_or, set, sym, refl, ap, ◌∙◌, append_assoc, add-one, arith, length-set, get_or-set_other, get_or-set_same, pow_pos, leb-false, leb-true}
use native.Mathlib.Numerals.{add-two}
use native.Mathlib.Nat.{zero-mod}
use lib.Bits.{bit_or}
use lib.Count.{ones}
use lib.Seq.{sets, length-sets}
use Rattle.trees.specs.Hash.{place, identifier}
use Rattle.trees.specs.Splits.{taxon}
use Rattle.trees.specs.Opening.{Opening}
use Rattle.trees.specs.Verdict.{leaf_fault}
use Rattle.theorems.specs.HashLaws.{sum_over-zero}
use Rattle.theorems.specs.OnesLaws.{ones-zero}
use Rattle.answers.specs.declared.Refusal.{Refusal}
use Rattle.records.specs.Records.{wide}
use Rattle.newick.specs.Splits.{Hashed}
use Rattle.newick.specs.Running.{labels_at, label_taxa}
use Rattle.newick.specs.Leaves.{LeafNew, LeafAdded, LeavesSummed}
use Rattle.newick.specs.declared.splits.Sums.{Sums}
use Rattle.newick.proofs.TaxonLaws.{hashed-as}
use Rattle.newick.proofs.LabelLaws.{taxa-append, taxa-one, label_at, labels_next, labels-sub}

-- ---- a record that is put

module _ (u : List ℕ) (i a b c : ℕ) where
  put-before : (n : ℕ) → n < i → get_or (sets u i (a ∷ b ∷ c ∷ [])) n 0 ≡ get_or u n 0
  put-before n h =
      get_or-set_other (set (set u i a) (suc i) b) (suc (suc i)) n c 0 (λ e. omega arith)
      ∙ get_or-set_other (set u i a) (suc i) n b 0 (λ e. omega arith)
      ∙ get_or-set_other u i n a 0 (λ e. omega arith)

  module _ (h : i + wide ≤ length u) where
    put-mask : get_or (sets u i (a ∷ b ∷ c ∷ [])) i 0 ≡ a
    put-mask =
        get_or-set_other (set (set u i a) (suc i) b) (suc (suc i)) i c 0 (λ e. omega arith)
        ∙ get_or-set_other (set u i a) (suc i) i b 0 (λ e. omega arith)
        ∙ get_or-set_same u i a 0 (omega arith)

    put-place : get_or (sets u i (a ∷ b ∷ c ∷ [])) (i + 1) 0 ≡ b
    put-place =
        rw (add-one i)
        (get_or-set_other (set (set u i a) (suc i) b) (suc (suc i)) (suc i) c 0 (λ e. omega arith)
        ∙ get_or-set_same (set u i a) (suc i) b 0 (omega (arith, length-set u i a)))

    put-identifier : get_or (sets u i (a ∷ b ∷ c ∷ [])) (i + 2) 0 ≡ c
    put-identifier =
        rw (add-two i)
        (get_or-set_same (set (set u i a) (suc i) b) (suc (suc i)) c 0 (omega (arith, length-set (set u i a) (suc i) b, length-set u i a)))

-- ---- the sums of no leaf

hashed-none : (o : Opening) → Hashed o 0 0 0
unfolding place identifier
hashed-none o = record {
  small = pow_pos o.numbers.taxa;
  placed = sym (ap (λ (x : ℕ). x % o.numbers.places) (sum_over-zero o.first) ∙ zero-mod o.numbers.places);
  identified = sym (ap (λ (x : ℕ). x % 2 ^ 64) (sum_over-zero o.second));
}

-- ---- the loop

-- record j of u is of the first j leaves
pub record Record (o : Opening) (s l u : List ℕ) (j : ℕ) : Type 0 where
  pub masked : get_or u (wide * j) 0 ≡ label_taxa o.names (labels_at s l j)
  pub hashed : Hashed o (get_or u (wide * j) 0) (get_or u (wide * j + 1) 0) (get_or u (wide * j + 2) 0)

pub record Summing (o : Opening) (s l : List ℕ) (k : ℕ) (u₀ u : List ℕ) (x : Sums) (j : ℕ) : Type 0 where
  pub size : length u ≡ length u₀
  pub within : j ≤ k
  pub hashed : Hashed o x.mask x.place x.identifier
  pub masked : x.mask ≡ label_taxa o.names (labels_at s l j)
  pub count : ones x.mask ≡ j
  pub judged : (ws : List (List ℕ)) → leaf_fault o.names 0 (labels_at s l j ++ ws) ≡ leaf_fault o.names x.mask ws
  pub each : (i : ℕ) → i ≤ j → Record o s l u i

module _ (o : Opening) (s l : List ℕ) (k : ℕ) where
  record-put : (u : List ℕ) (j : ℕ) (x : Sums) → wide * j + wide ≤ length u → x.mask ≡ label_taxa o.names (labels_at s l j)
      → Hashed o x.mask x.place x.identifier → Record o s l (sets u (wide * j) (x.mask ∷ x.place ∷ x.identifier ∷ [])) j
  record-put u j x h m q =
      let a = put-mask u (wide * j) x.mask x.place x.identifier h in
      let b = put-place u (wide * j) x.mask x.place x.identifier h in
      let c = put-identifier u (wide * j) x.mask x.place x.identifier h in
      record { masked = a ∙ m; hashed = hashed-as o a b c q }

  record-kept : (u : List ℕ) (i j : ℕ) (x : Sums) → i < j → Record o s l u i → Record o s l (sets u (wide * j) (x.mask ∷ x.place ∷ x.identifier ∷ [])) i
  record-kept u i j x h r =
      let at = put-before u (wide * j) x.mask x.place x.identifier in
      let a = at (wide * i) (omega arith) in
      record { masked = a ∙ r.masked; hashed = hashed-as o a (at (wide * i + 1) (omega arith)) (at (wide * i + 2) (omega arith)) r.hashed }

  pub summing-none : (u₀ u : List ℕ) → wide * k + wide ≤ length u₀ → u ≡ sets u₀ 0 (0 ∷ 0 ∷ 0 ∷ []) → Summing o s l k u u (record { mask = 0; place = 0; identifier = 0 }) 0
  unfolding labels_at label_taxa
  summing-none u₀ u h e = record {
    size = refl;
    within = omega arith;
    hashed = hashed-none o;
    masked = refl;
    count = ones-zero;
    judged = λ ws. refl;
    each = λ i b. let z : i ≡ 0 = omega arith in rw (z, e) (record-put u₀ 0 (record { mask = 0; place = 0; identifier = 0 }) (omega arith) refl (hashed-none o));
  }

  module _ (u₀ u : List ℕ) (x : Sums) (j : ℕ) (g : Summing o s l k u₀ u x j) (below : j < k) where
    pub summing-more : (f : Result Sums Refusal) (y : Sums) (v : List ℕ) → LeafAdded o (label_at s l j) x.mask f → f ≡ Ok y → wide * k + wide ≤ length u₀
        → v ≡ sets u (wide * (j + 1)) (y.mask ∷ y.place ∷ y.identifier ∷ [])
        → Summing o s l k u₀ v y (j + 1)
    unfolding LeafAdded labels_at
    summing-more f y v a q room e = go (rw q at a)
      where
        more : LeafNew o (label_at s l j) x.mask y → y.mask ≡ label_taxa o.names (labels_at s l (suc j))
        more n =
            n.masked
            ∙ ap (λ (z : ℕ). bit_or z (taxon o.names (label_at s l j))) g.masked
            ∙ ap (bit_or (label_taxa o.names (labels_at s l j))) (sym (taxa-one o.names (label_at s l j)))
            ∙ sym (taxa-append o.names (labels_at s l j) (label_at s l j ∷ []))

        behind : LeafNew o (label_at s l j) x.mask y → (ws : List (List ℕ)) → leaf_fault o.names 0 (labels_at s l (suc j) ++ ws) ≡ leaf_fault o.names y.mask ws
        behind n ws = ap (leaf_fault o.names 0) (append_assoc (labels_at s l j) (label_at s l j ∷ []) ws) ∙ g.judged (label_at s l j ∷ ws) ∙ n.judged ws

        records : LeafNew o (label_at s l j) x.mask y → (i : ℕ) → i ≤ suc j → (b : Bool) → leb i j ≡ b → Record o s l (sets u (wide * suc j) (y.mask ∷ y.place ∷ y.identifier ∷ [])) i
        records n i h true c = record-kept u i (suc j) y (omega (arith, leb-true i j c)) (g.each i (leb-true i j c))
        records n i h false c =
            let z : i ≡ suc j = omega (arith, leb-false i j c) in
            rw z (record-put u (suc j) y (omega (arith, g.size)) (more n) n.hashed)

        go : LeafNew o (label_at s l j) x.mask y → Summing o s l k u₀ v y (j + 1)
        go n = rw (e, add-one j)
            (record {
              size = length-sets u (wide * suc j) (y.mask ∷ y.place ∷ y.identifier ∷ []) ∙ g.size;
              within = below;
              hashed = n.hashed;
              masked = more n;
              count = n.more ∙ ap suc g.count;
              judged = behind n;
              each = λ i h. records n i h (leb i j) refl;
            })

    pub summing-wrong : (f : Result Sums Refusal) (r : Refusal) → LeafAdded o (label_at s l j) x.mask f → f ≡ Err r → LeavesSummed o s l k u (Err r)
    unfolding LeafAdded LeavesSummed
    summing-wrong f r a q ws =
        let n = labels_next s l j k below in
        ap (λ z. leaf_fault o.names 0 (z ++ ws)) n.1
        ∙ ap (leaf_fault o.names 0) (append_assoc (labels_at s l j) (label_at s l j ∷ n.0) ws)
        ∙ g.judged (label_at s l j ∷ (n.0 ++ ws))
        ∙ (rw q at a) (n.0 ++ ws)

  pub summing-done : (u₀ u : List ℕ) (x : Sums) (j : ℕ) → Summing o s l k u₀ u x j → k ≤ j → LeavesSummed o s l k u (Ok tt)
  unfolding LeavesSummed
  summing-done u₀ u x j g h =
      let e : j ≡ k = omega (arith, g.within) in
      let w = rw e at g in
      record {
        masked = λ i b. (w.each i b).masked;
        running = record {
          each = λ i b. (w.each i b).hashed;
          inside = λ i n b c. rw ((w.each i (omega arith)).masked, (w.each n c).masked) (labels-sub s l o.names i n b);
        };
        count = rw w.masked at w.count;
        judged = λ ws. w.judged ws ∙ ap (λ (z : ℕ). leaf_fault o.names z ws) w.masked;
      }
