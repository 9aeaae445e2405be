-- What the readers of the shape find and note: one law for each way through the code.
--
--   joined-nil, joined-beside         nodes that are read in two runs
--   spans-beside, labels_append       what is noted of nodes beside each other
--   read-leaf, read-stray, read-bracket, read-deep, read-other     a node
--   Sofar, sofar-none, sofar-more     the children that are read before the place where the loop stands
--   children-fault, children-read     what the children and the bracket behind them come to
--   shape-good, shape-fault           a whole text
use Rattle.std.proofs.Common.{◌≡◌, ℕ, zero, suc, ◌+◌, ◌-◌, ◌*◌, ◌^◌, ◌<◌, ◌≤◌, Bool, true, false, leb, List, [], ◌∷◌, ◌++◌, length, set, sym, refl, ap, ◌∙◌, subst, ap₂, append_assoc, append-nil, add-zero, sub-one, arith, length-append, leb-false, leb-true}
use mathlib.Core.Option.{Option, none as nothing, some}
use lib.Seq.{slice, sets}
use Rattle.trees.specs.Text.{Symbol, open_bracket, close_bracket, comma, colon, stray, token, ended}
use Rattle.trees.specs.Tree.{Nodes, nil, leaf, inner, leaf_with, beside, width, leaves}
use Rattle.trees.specs.Reading.{Read, read_length, bracketed, joined, read_comma, followed, read_node, read_nodes, alone, reading}
use Rattle.theorems.specs.TextLaws.{symbols-end}
use Rattle.theorems.specs.FewLaws.{width-beside, leaves-beside}
use Rattle.text.specs.Read.{kind_at, NoBlank, symbols_at, Skipped, LabelEnd, Behind, ClosingBehind}
use Rattle.text.specs.PlaceLaws.{front, front-not, there, behind, kind-small, mark-at, end-stops}
use Rattle.newick.specs.Shape.{Labels, none, one, spans, Ready, NodeReads, ChildrenReads, Noted, NodeRead, ShapeRead}
use Rattle.newick.specs.declared.shape.Mark.{Mark}

-- ---- runs of stores

pub sets-append : (vs l : List ℕ) (i : ℕ) (ws : List ℕ) → sets l i (vs ++ ws) ≡ sets (sets l i vs) (i + length vs) ws
sets-append [] l i ws = ap (λ (j : ℕ). sets l j ws) (sym (add-zero i))
sets-append (v ∷ vs) l i ws = sets-append vs (set l i v) (suc i) ws ∙ ap (λ (j : ℕ). sets (sets (set l i v) (suc i) vs) j ws) (omega arith)

-- ---- by the first symbol

node-front : (f d : ℕ) (ss : List Symbol) → (front ss ≡ 1 → ⊥) → (front ss ≡ 2 → ⊥) → read_node f d ss ≡ nothing
unfolding read_node
node-front zero d ss h g = refl
node-front (suc f) d [] h g = refl
node-front (suc f) d (open_bracket ∷ r) h g = absurd (g refl)
node-front (suc f) d (close_bracket ∷ r) h g = refl
node-front (suc f) d (comma ∷ r) h g = refl
node-front (suc f) d (colon ∷ r) h g = refl
node-front (suc f) d (stray ∷ r) h g = refl
node-front (suc f) d (token w ∷ r) h g = absurd (h refl)

no-depth : (f : ℕ) (ss : List Symbol) → read_node f 0 (open_bracket ∷ ss) ≡ nothing
unfolding read_node
no-depth zero ss = refl
no-depth (suc f) ss = refl

comma-front : (t : Nodes) (ss : List Symbol) (more : List Symbol → Read) → (front ss ≡ 4 → ⊥) → read_comma t ss more ≡ some (t, ss)
unfolding read_comma
comma-front t [] more h = refl
comma-front t (open_bracket ∷ r) more h = refl
comma-front t (close_bracket ∷ r) more h = refl
comma-front t (comma ∷ r) more h = absurd (h refl)
comma-front t (colon ∷ r) more h = refl
comma-front t (stray ∷ r) more h = refl
comma-front t (token w ∷ r) more h = refl

-- ---- nodes beside each other

beside-assoc : (t u v : Nodes) → beside (beside t u) v ≡ beside t (beside u v)
unfolding beside
beside-assoc nil u v = refl
beside-assoc (leaf w e r) u v = ap (leaf w e) (beside-assoc r u v)
beside-assoc (inner c e r) u v = ap (inner c e) (beside-assoc r u v)

joined-nil : (x : Read) → joined nil x ≡ x
unfolding joined beside
joined-nil nothing = refl
joined-nil (some p) = refl

joined-beside : (t u : Nodes) (x : Read) → joined t (joined u x) ≡ joined (beside t u) x
unfolding joined
joined-beside t u nothing = refl
joined-beside t u (some p) = ap (λ (v : Nodes). some (v, p.1)) (sym (beside-assoc t u p.0))

spans-beside : (t u : Nodes) (i : ℕ) → spans i (beside t u) ≡ spans i t ++ spans (i + length (leaves t)) u
unfolding spans beside leaves
spans-beside nil u i = ap (λ (j : ℕ). spans j u) (sym (add-zero i))
spans-beside (leaf w e r) u i = spans-beside r u (i + 1) ∙ ap (λ (j : ℕ). spans (i + 1) r ++ spans j u) (omega arith)
spans-beside (inner c e r) u i =
    let j : ℕ = i + length (leaves c) in
    ap (λ l. spans i c ++ (i ∷ j ∷ l)) (spans-beside r u j ∙ ap (λ (k : ℕ). spans j r ++ spans k u) (omega (arith, length-append (leaves c) (leaves r))))
    ∙ sym (append_assoc (spans i c) (i ∷ j ∷ spans j r) (spans (i + length (leaves c ++ leaves r)) u))

labels_append : {s : List ℕ} {ts us : List ℕ} {vs ws : List (List ℕ)} → Labels s ts vs → Labels s us ws → Labels s (ts ++ us) (vs ++ ws)
labels_append none q = q
labels_append (one h l p) q = one h l (labels_append p q)

module _ (s : List ℕ) (tokens nodes : List ℕ) where
  noted-none : (c : Mark) → c.leaves ≤ c.at → c.inner ≤ c.at → Noted s nil c c tokens nodes tokens nodes
  unfolding leaves spans
  noted-none c h l = record { ends = []; labels = none; tokened = refl; spanned = refl; leaved = sym (add-zero c.leaves); nested = sym (add-zero (2 * c.inner)); few-leaves = h; few-inner = l }

  -- of nodes, and of nodes behind them
  noted-beside : (t u : Nodes) (c d e : Mark) (tokens₁ nodes₁ tokens₂ nodes₂ : List ℕ) → Noted s t c d tokens nodes tokens₁ nodes₁ → Noted s u d e tokens₁ nodes₁ tokens₂ nodes₂
      → Noted s (beside t u) c e tokens nodes tokens₂ nodes₂
  noted-beside t u c d e tokens₁ nodes₁ tokens₂ nodes₂ p q =
      let i : ℕ = 2 * c.inner in
      let n : length (leaves (beside t u)) ≡ length (leaves t) + length (leaves u) = ap length (leaves-beside t u) ∙ length-append (leaves t) (leaves u) in
      let m : spans c.leaves (beside t u) ≡ spans c.leaves t ++ spans d.leaves u = spans-beside t u c.leaves ∙ ap (λ (j : ℕ). spans c.leaves t ++ spans j u) (sym p.leaved) in
      record {
        ends = p.ends ++ q.ends;
        labels = subst (Labels s (p.ends ++ q.ends)) (sym (leaves-beside t u)) (labels_append p.labels q.labels);
        tokened = q.tokened ∙ ap₂ (λ l (j : ℕ). sets l j q.ends) p.tokened (ap (λ (j : ℕ). 2 * j) p.leaved ∙ twice p.labels) ∙ sym (sets-append p.ends tokens (2 * c.leaves) q.ends);
        spanned = q.spanned ∙ ap₂ (λ l (j : ℕ). sets l j (spans d.leaves u)) p.spanned p.nested ∙ sym (sets-append (spans c.leaves t) nodes i (spans d.leaves u)) ∙ ap (sets nodes i) (sym m);
        leaved = omega (arith, p.leaved, q.leaved, n);
        nested = omega (arith, p.nested, q.nested, ap length m, length-append (spans c.leaves t) (spans d.leaves u));
        few-leaves = q.few-leaves;
        few-inner = q.few-inner;
      }
    where
      twice-length : {ts : List ℕ} {ws : List (List ℕ)} → Labels s ts ws → length ts ≡ 2 * length ws
      twice-length none = refl
      twice-length (one h l r) = omega (arith, twice-length r)

      twice : {ts : List ℕ} → Labels s ts (leaves t) → 2 * (c.leaves + length (leaves t)) ≡ 2 * c.leaves + length ts
      twice r = omega (arith, twice-length r)

inner-leaves : (t : Nodes) (x : Option (List ℕ)) → leaves t ≡ leaves (inner t x nil)
unfolding leaves
inner-leaves t x = sym (append-nil (leaves t))

inner-spans : (i j : ℕ) (t : Nodes) (x : Option (List ℕ)) → j ≡ i + length (leaves t) → spans i t ++ (i ∷ j ∷ []) ≡ spans i (inner t x nil)
unfolding spans
inner-spans i j t x e = ap (λ (k : ℕ). spans i t ++ (i ∷ k ∷ [])) e

-- ---- a node

-- the mark behind a bracket at a, and that less text is left there
pub inside-ready : (s : List ℕ) (c : Mark) (a : ℕ) → Ready s c → Skipped s c.at a → kind_at s a ≡ 2 → Ready s (record { at = a + 1; leaves = c.leaves; inner = c.inner })
inside-ready s c a z p k = record { short = z.short; within = behind s a 2 k (omega arith); few-leaves = omega (arith, p.past, z.few-leaves); few-inner = omega (arith, p.past, z.few-inner) }

pub inside-less : (s : List ℕ) (i a t : ℕ) → 2 * (length s - i) ≡ t → Skipped s i a → kind_at s a ≡ 2 → 2 * (length s - (a + 1)) + 1 < t
inside-less s i a t e p k = let l = there s a 2 k (omega arith) in omega (arith, p.past)

-- behind a bracket at a, with steps enough
bracket-reads : (s : List ℕ) (d i a : ℕ) (x : Read) → symbols_at s i ≡ open_bracket ∷ symbols_at s (a + 1) → (d ≡ 0 → ⊥) → i ≤ a → a < length s → ChildrenReads s (d - 1) (a + 1) x → NodeReads s d i x
unfolding read_node
bracket-reads s zero i a x v z h l q f g = absurd (z refl)
bracket-reads s (suc d) i a x v z h l q zero g = absurd (omega arith)
bracket-reads s (suc d) i a x v z h l q (suc f) g =
    ap (read_node (suc f) (suc d)) v ∙ subst (λ (n : ℕ). bracketed (read_nodes f n (symbols_at s (a + 1))) ≡ x) (sub-one (suc d)) (q f (omega arith))

module _ (s : List ℕ) (d : ℕ) (c : Mark) (tokens nodes : List ℕ) where
  pub read-leaf : (a e r : ℕ) (tokens' : List ℕ) → Ready s c → Skipped s c.at a → LabelEnd s a e → e ≤ length s → a < e → tokens' ≡ sets tokens (2 * c.leaves) (a ∷ e ∷ []) → Behind read_length s e r
      → NodeRead (NodeReads s d c.at) s c (record { at = r; leaves = c.leaves + 1; inner = c.inner }) tokens nodes tokens' nodes
  unfolding width leaves spans read_node
  read-leaf a e r tokens' z p w m k l b =
      let v : symbols_at s c.at ≡ token (slice a e s) ∷ symbols_at s e = p.tokens ∙ (w.good k m).2 in
      record {
        good = λ h.
            let q = b.good h in (
              leaf (slice a e s) q.0 nil,
              record { reads = λ f g. first f g v ∙ q.1 (leaf_with (slice a e s)); one = refl; past = omega (arith, p.past, w.past, q.2); stop = q.3 },
              record {
                ends = a ∷ e ∷ [];
                labels = one {b = a} {e = e} w.past m none;
                tokened = l;
                spanned = refl;
                leaved = refl;
                nested = sym (add-zero (2 * c.inner));
                few-leaves = omega (arith, p.past, w.past, q.2, z.few-leaves);
                few-inner = omega (arith, p.past, w.past, q.2, z.few-inner);
              },
            );
        fault = λ h f g. first f g v ∙ (b.fault h).1 (leaf_with (slice a e s));
      }
    where
      first : (f : ℕ) → 2 * (length s - c.at) < f → symbols_at s c.at ≡ token (slice a e s) ∷ symbols_at s e → read_node f d (symbols_at s c.at) ≡ read_length (leaf_with (slice a e s)) (symbols_at s e)
      first zero g v = absurd (omega arith)
      first (suc f) g v = ap (read_node (suc f) d) v

  -- a mark that is past the text
  fault-mark : (R : Read → Type 0) (r : Mark) (tokens' nodes' : List ℕ) → r.at ≡ length s + 1 → R nothing → NodeRead R s c r tokens nodes tokens' nodes'
  fault-mark R r tokens' nodes' e p = record { good = λ h. absurd (omega arith); fault = λ h. p }

  -- what is no label
  pub read-stray : (a e : ℕ) (r : Mark) → Skipped s c.at a → LabelEnd s a e → length s < e → r.at ≡ length s + 1 → NodeRead (NodeReads s d c.at) s c r tokens nodes tokens nodes
  read-stray a e r p w h z =
      let g = w.fault h in
      fault-mark (NodeReads s d c.at) r tokens nodes z (λ f l. ap (read_node f d) (p.tokens ∙ g.3) ∙ node-front f d (stray ∷ g.2) (λ n. omega arith) (λ n. omega arith))

  pub read-other : (a e : ℕ) (r : Mark) → Skipped s c.at a → LabelEnd s a e → e ≤ a → (kind_at s a ≡ 2 → ⊥) → r.at ≡ length s + 1 → NodeRead (NodeReads s d c.at) s c r tokens nodes tokens nodes
  read-other a e r p w h g z =
      fault-mark (NodeReads s d c.at) r tokens nodes z
      (λ f l. ap (read_node f d) p.tokens ∙ node-front f d (symbols_at s a) (front-not s a 1 (λ n. omega arith) p.stop (w.absent (omega (arith, w.past)))) (front-not s a 2 (λ n. omega arith) p.stop g))

  pub read-deep : (a : ℕ) (r : Mark) → Skipped s c.at a → kind_at s a ≡ 2 → d ≡ 0 → r.at ≡ length s + 1 → NodeRead (NodeReads s d c.at) s c r tokens nodes tokens nodes
  read-deep a r p k z e = fault-mark (NodeReads s d c.at) r tokens nodes e (λ f l. subst (λ (n : ℕ). read_node f n (symbols_at s c.at) ≡ nothing) (sym z) (ap (read_node f 0) (p.tokens ∙ mark-at s a open_bracket (omega arith) k) ∙ no-depth f (symbols_at s (a + 1))))

  -- the children are read behind the bracket at a
  pub read-bracket : (a : ℕ) (r : Mark) (tokens' nodes' : List ℕ) → Skipped s c.at a → kind_at s a ≡ 2 → (d ≡ 0 → ⊥)
      → NodeRead (ChildrenReads s (d - 1) (a + 1)) s (record { at = a + 1; leaves = c.leaves; inner = c.inner }) r tokens nodes tokens' nodes'
      → NodeRead (NodeReads s d c.at) s c r tokens nodes tokens' nodes'
  read-bracket a r tokens' nodes' p k z q =
      let v : symbols_at s c.at ≡ open_bracket ∷ symbols_at s (a + 1) = p.tokens ∙ mark-at s a open_bracket (omega arith) k in
      let l : a < length s = there s a 2 k (omega arith) in
      let go : (x : Read) → ChildrenReads s (d - 1) (a + 1) x → NodeReads s d c.at x = λ x g f h. bracket-reads s d c.at a x v z p.past l g f h in
      record {
        good = λ h.
            let g = q.good h in
            let o = g.1 in
            let n = g.2 in (
              g.0,
              record { reads = go (some (g.0, symbols_at s r.at)) o.reads; one = o.one; past = omega (arith, o.past, p.past); stop = o.stop },
              record { ends = n.ends; labels = n.labels; tokened = n.tokened; spanned = n.spanned; leaved = n.leaved; nested = n.nested; few-leaves = n.few-leaves; few-inner = n.few-inner },
            );
        fault = λ h. go nothing (q.fault h);
      }

-- ---- children

-- nodes from i on read as x
abbrev NodesReads : List ℕ → ℕ → ℕ → Read → Type 0
NodesReads s d i x = (f : ℕ) → 2 * (length s - i) + 1 < f → read_nodes f d (symbols_at s i) ≡ x

-- the children between the mark c and e, k of them, with a comma behind each: what stands from e on decides
pub record Sofar (s : List ℕ) (d : ℕ) (c : Mark) (tokens nodes : List ℕ) (k : ℕ) (e : Mark) (tokens' nodes' : List ℕ) : Type 0 where
  pub tree : Nodes
  pub rest : (x : Read) → NodesReads s d e.at x → NodesReads s d c.at (joined tree x)
  pub counted : width tree ≡ k
  pub past : c.at + k ≤ e.at
  pub within : e.at ≤ length s
  pub noted : Noted s tree c e tokens nodes tokens' nodes'

-- a node u from i up to j, and what stands behind it
first_of : (s : List ℕ) (d i j : ℕ) (u : Nodes) → NodeReads s d i (some (u, symbols_at s j)) → (f : ℕ) → 2 * (length s - i) < f → read_nodes (suc f) d (symbols_at s i) ≡ read_comma u (symbols_at s j) (λ r. read_nodes f d r)
unfolding read_nodes followed
first_of s d i j u q f h = ap (λ x. followed x (λ r. read_nodes f d r)) (q f h)

with-comma : (s : List ℕ) (d i j : ℕ) (u : Nodes) (x : Read) → NodeReads s d i (some (u, symbols_at s j)) → i < j → j < length s → symbols_at s j ≡ comma ∷ symbols_at s (j + 1) → NodesReads s d (j + 1) x → NodesReads s d i (joined u x)
unfolding read_comma
with-comma s d i j u x q h l v p zero g = absurd (omega arith)
with-comma s d i j u x q h l v p (suc f) g = first_of s d i j u q f (omega arith) ∙ ap (λ y. read_comma u y (λ r. read_nodes f d r)) v ∙ ap (joined u) (p f (omega arith))

with_none : (s : List ℕ) (d i j : ℕ) (u : Nodes) → NodeReads s d i (some (u, symbols_at s j)) → NoBlank s j → (kind_at s j ≡ 4 → ⊥) → NodesReads s d i (some (u, symbols_at s j))
with_none s d i j u q b k zero g = absurd (omega arith)
with_none s d i j u q b k (suc f) g = first_of s d i j u q f (omega arith) ∙ comma-front u (symbols_at s j) (λ r. read_nodes f d r) (front-not s j 4 (λ n. omega arith) b k)

with-fault : (s : List ℕ) (d i : ℕ) → NodeReads s d i nothing → NodesReads s d i nothing
unfolding read_nodes followed
with-fault s d i q zero g = refl
with-fault s d i q (suc f) g = ap (λ x. followed x (λ r. read_nodes f d r)) (q f (omega arith))

module _ (s : List ℕ) (d : ℕ) (c : Mark) (tokens nodes : List ℕ) where
  pub sofar-none : Ready s c → Sofar s d c tokens nodes 0 c tokens nodes
  unfolding width
  sofar-none z = record {
    tree = nil;
    rest = λ x q. subst (NodesReads s d c.at) (sym (joined-nil x)) q;
    counted = refl;
    past = omega arith;
    within = z.within;
    noted = noted-none s tokens nodes c z.few-leaves z.few-inner;
  }

  pub sofar-ready : (k : ℕ) (e : Mark) (tokens' nodes' : List ℕ) → Ready s c → Sofar s d c tokens nodes k e tokens' nodes' → Ready s e
  sofar-ready k e tokens' nodes' z p = record { short = z.short; within = p.within; few-leaves = p.noted.few-leaves; few-inner = p.noted.few-inner }

  pub sofar-less : (k : ℕ) (e : Mark) (tokens' nodes' : List ℕ) (t : ℕ) → 2 * (length s - c.at) + 1 ≡ t → Sofar s d c tokens nodes k e tokens' nodes' → 2 * (length s - e.at) < t
  sofar-less k e tokens' nodes' t h p = omega (arith, p.past)

  module _ (k : ℕ) (e r : Mark) (tokens₁ nodes₁ tokens₂ nodes₂ : List ℕ) (p : Sofar s d c tokens nodes k e tokens₁ nodes₁) (q : NodeRead (NodeReads s d e.at) s e r tokens₁ nodes₁ tokens₂ nodes₂) where
    pub sofar-more : kind_at s r.at ≡ 4 → Sofar s d c tokens nodes (k + 1) (record { at = r.at + 1; leaves = r.leaves; inner = r.inner }) tokens₂ nodes₂
    sofar-more h =
        let l : r.at < length s = there s r.at 4 h (omega arith) in
        let g = q.good (omega arith) in
        let u = g.0 in
        let o = g.1 in
        let v : symbols_at s r.at ≡ comma ∷ symbols_at s (r.at + 1) = mark-at s r.at comma (omega arith) h in
        let n = noted-beside s tokens nodes p.tree u c e r tokens₁ nodes₁ tokens₂ nodes₂ p.noted g.2 in
        record {
          tree = beside p.tree u;
          rest = λ x m. subst (NodesReads s d c.at) (joined-beside p.tree u x) (p.rest (joined u x) (with-comma s d e.at r.at u x o.reads o.past l v m));
          counted = omega (arith, width-beside p.tree u, p.counted, o.one);
          past = omega (arith, p.past, o.past);
          within = omega arith;
          noted = record { ends = n.ends; labels = n.labels; tokened = n.tokened; spanned = n.spanned; leaved = n.leaved; nested = n.nested; few-leaves = omega (arith, n.few-leaves); few-inner = omega (arith, n.few-inner) };
        }

    pub turn-less : kind_at s r.at ≡ 4 → length s - (r.at + 1) < length s - e.at
    turn-less h =
        let l : r.at < length s = there s r.at 4 h (omega arith) in
        let o = (q.good (omega arith)).1 in
        omega (arith, o.past)

    -- no blank stands behind the last child, or the text has ended
    pub last-stop : NoBlank s r.at
    last-stop = go (leb r.at (length s)) refl
      where
        go : (b : Bool) → leb r.at (length s) ≡ b → NoBlank s r.at
        go true h = (q.good (leb-true r.at (length s) h)).1.stop
        go false h = let l = leb-false r.at (length s) h in end-stops s r.at (omega arith)

    -- all children, up to r
    all_read : (h : r.at ≤ length s) → (kind_at s r.at ≡ 4 → ⊥) → NodesReads s d c.at (some (beside p.tree (q.good h).0, symbols_at s r.at))
    unfolding joined
    all_read h k =
        let g = q.good h in
        p.rest (some (g.0, symbols_at s r.at)) (with_none s d e.at r.at g.0 g.1.reads g.1.stop k)

    all-width : (h : r.at ≤ length s) → width (beside p.tree (q.good h).0) ≡ k + 1
    all-width h = let g = q.good h in omega (arith, width-beside p.tree g.0, p.counted, g.1.one)

    -- a fault in the last child, or behind it
    pub children-fault : (a : ℕ) (m : Mark) (tokens' nodes' : List ℕ) → (kind_at s r.at ≡ 4 → ⊥) → ClosingBehind s r.at (k + 1) a → length s < a → m.at ≡ length s + 1
        → NodeRead (ChildrenReads s d c.at) s c m tokens nodes tokens' nodes'
    unfolding bracketed joined
    children-fault a m tokens' nodes' z b l y = fault-mark s d c tokens nodes (ChildrenReads s d c.at) m tokens' nodes' y (go (leb r.at (length s)) refl)
      where
        go : (t : Bool) → leb r.at (length s) ≡ t → ChildrenReads s d c.at nothing
        go true h =
            let i = leb-true r.at (length s) h in
            λ f g. ap bracketed (all_read i z f g) ∙ (b.fault l).1 (beside p.tree (q.good i).0) (all-width i)
        go false h = λ f g. ap bracketed (p.rest nothing (with-fault s d e.at (q.fault (leb-false r.at (length s) h))) f g)

    -- what is noted of them fits
    pub last-small : (a : ℕ) → Ready s c → ClosingBehind s r.at (k + 1) a → a ≤ length s → (2 * r.inner + 2 < 2 ^ 64) × (c.leaves < 2 ^ 16) × (r.leaves < 2 ^ 16)
    last-small a z b l =
        let j = b.good l in
        let n = (q.good (omega (arith, j.2))).2 in
        (omega (arith, n.few-inner, j.2, z.short), omega (arith, z.few-leaves, z.within, z.short), omega (arith, n.few-leaves, j.2, z.short))

    -- the closing bracket and what may follow it, up to a
    pub children-read : (a : ℕ) (nodes₃ : List ℕ) → (kind_at s r.at ≡ 4 → ⊥) → ClosingBehind s r.at (k + 1) a → a ≤ length s → nodes₃ ≡ sets nodes₂ (2 * r.inner) (c.leaves ∷ r.leaves ∷ [])
        → NodeRead (ChildrenReads s d c.at) s c (record { at = a; leaves = r.leaves; inner = r.inner + 1 }) tokens nodes tokens₂ nodes₃
    unfolding bracketed width
    children-read a nodes₃ z b l w =
        let j = b.good l in
        let h : r.at ≤ length s = omega (arith, j.2) in
        let g = q.good h in
        let t = beside p.tree g.0 in
        let n = noted-beside s tokens nodes p.tree g.0 c e r tokens₁ nodes₁ tokens₂ nodes₂ p.noted g.2 in
        let x : spans c.leaves t ++ (c.leaves ∷ r.leaves ∷ []) ≡ spans c.leaves (inner t j.0 nil) = inner-spans c.leaves r.leaves t j.0 n.leaved in
        record {
          good = λ _. (
            inner t j.0 nil,
            record { reads = λ f y. ap bracketed (all_read h z f y) ∙ j.1 t (all-width h); one = refl; past = omega (arith, p.past, g.1.past, j.2); stop = j.3 },
            record {
              ends = n.ends;
              labels = subst (Labels s n.ends) (inner-leaves t j.0) n.labels;
              tokened = n.tokened;
              spanned = w ∙ ap₂ (λ y (i : ℕ). sets y i (c.leaves ∷ r.leaves ∷ [])) n.spanned n.nested ∙ sym (sets-append (spans c.leaves t) nodes (2 * c.inner) (c.leaves ∷ r.leaves ∷ [])) ∙ ap (sets nodes (2 * c.inner)) x;
              leaved = n.leaved ∙ ap (λ y. c.leaves + length y) (inner-leaves t j.0);
              nested = omega (arith, n.nested, ap length x, length-append (spans c.leaves t) (c.leaves ∷ r.leaves ∷ []));
              few-leaves = omega (arith, n.few-leaves, j.2);
              few-inner = omega (arith, n.few-inner, j.2);
            },
          );
          fault = λ y. absurd (omega arith);
        }

-- ---- a whole text

pub symbols-none : (s : List ℕ) (i : ℕ) → length s ≤ i → symbols_at s i ≡ []
unfolding ended
symbols-none s i h = symbols-end s i h []

past-not : (s : List ℕ) (i : ℕ) → i < length s → kind_at s i ≡ 8 → ⊥
past-not s i h e = let l = kind-small s i h in omega arith

alone-front : (t : Nodes) (ss : List Symbol) → (front ss ≡ 8 → ⊥) → alone (some (t, ss)) ≡ nothing
alone-front t [] h = absurd (h refl)
alone-front t (x ∷ r) h = refl

whole-read : (s : List ℕ) (x : Read) → NodeReads s 63 0 x → reading s ≡ alone x
unfolding reading
whole-read s x q = ap alone (q (suc (2 * length s)) (omega arith))

module _ (s : List ℕ) (tokens nodes tokens' nodes' : List ℕ) (r : Mark) (p : NodeRead (NodeReads s 63 0) s (record { at = 0; leaves = 0; inner = 0 }) r tokens nodes tokens' nodes') where
  pub shape-good : r.at ≡ length s → ShapeRead s r tokens nodes tokens' nodes'
  shape-good e =
      let g = p.good (omega arith) in
      let n = g.2 in
      record {
        good = λ _. (
          g.0,
          record {
            reads = whole-read s (some (g.0, symbols_at s r.at)) g.1.reads ∙ ap (λ x. alone (some (g.0, x))) (symbols-none s r.at (omega arith));
            ends = n.ends;
            labels = n.labels;
            tokened = n.tokened;
            spanned = n.spanned;
            leaved = omega (arith, n.leaved);
            nested = omega (arith, n.nested);
          },
        );
        fault = λ h. absurd (omega arith);
      }

  -- something stands behind the node, or it is none
  pub shape-fault : (m : Mark) → (r.at ≡ length s → ⊥) → m.at ≡ length s + 1 → ShapeRead s m tokens nodes tokens' nodes'
  shape-fault m h e = record { good = λ l. absurd (omega arith); fault = λ l. go (leb r.at (length s)) refl }
    where
      go : (b : Bool) → leb r.at (length s) ≡ b → reading s ≡ nothing
      go true l =
          let i = leb-true r.at (length s) l in
          let g = p.good i in
          whole-read s (some (g.0, symbols_at s r.at)) g.1.reads ∙ alone-front g.0 (symbols_at s r.at) (front-not s r.at 8 (λ n. omega arith) g.1.stop (past-not s r.at (omega arith)))
      go false l = whole-read s nothing (p.fault (leb-false r.at (length s) l))
