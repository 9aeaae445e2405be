-- Laws of keys replaced in symbols, and of the labels of leaves replaced in a tree: what is one node is one node afterwards.
-- Assumes nothing.
--
--   node-named         one node whose keys are replaced is that node with its leaves renamed
--   node-free          the tokens of one node that may be keys are the labels of its leaves
--   leaves-renamed     each label of a leaf is replaced
--   spans-renamed      each inner node spans the same leaves
use Prim.Native.Nat.{ℕ, suc, ◌+◌}
use Rattle.std.specs.Prelude.{◌≡◌, Bool}
use Rattle.std.proofs.Math.Path.{refl, ap, ap₂, sym}
use Rattle.std.proofs.Common.{◌∙◌}
use Rattle.std.proofs.Math.Bool.{true, false}
use mathlib.Core.List.{List, [], ◌∷◌, ◌++◌, map, map-append}
use Rattle.std.proofs.Math.Option.{Option}
use Rattle.std.proofs.Math.ListN.{length}
use Rattle.std.proofs.lemmas.List.{length-map}
use Rattle.trees.specs.Text.{Symbol, open_bracket, close_bracket, comma, colon, stray, token}
use Rattle.trees.specs.Tree.{Nodes, nil, leaf, inner, beside, width, leaves}
use Rattle.trees.specs.Grammar.{MayHaveLength, no_length, a-length, MayHaveLabel, no_label, a-label, IsNode, is_leaf, is-inner, IsNodes, is_one, is-more}
use Rattle.trees.specs.Nexus.{Pair}
use Rattle.trees.specs.NexusCall.{name_of}
use Rattle.theorems.specs.FewLaws.{leaves-beside}
use Rattle.newick.specs.Shape.{spans}
use Rattle.nexus.specs.Named.{free_behind_symbol, named_symbol, named, with_free, free_tokens, renamed}

-- ---- symbols one behind another

-- whether a token behind the symbols a is replaced; free: one at their front is
unfoldable free_last : Bool → List Symbol → Bool
unfolding free_behind_symbol
free_last free [] = free
free_last free (x ∷ a) = free_last (free_behind_symbol x) a

-- keys are replaced in the front and in the rest
named-append : (ps : List Pair) (free : Bool) (a b : List Symbol) → named ps free (a ++ b) ≡ named ps free a ++ named ps (free_last free a) b
unfolding named free_last
named-append ps free [] b = refl
named-append ps free (x ∷ a) b = ap (λ (r : List Symbol). named_symbol ps free x ∷ r) (named-append ps (free_behind_symbol x) a b)

-- a symbol adds its token at the front
with_append : (free : Bool) (x : Symbol) (r v : List (List ℕ)) → with_free free x (r ++ v) ≡ with_free free x r ++ v
unfolding with_free
with_append free open_bracket r v = refl
with_append free close_bracket r v = refl
with_append free comma r v = refl
with_append free colon r v = refl
with_append free stray r v = refl
with_append true (token w) r v = refl
with_append false (token w) r v = refl

-- the free tokens are those of the front and those of the rest
free-append : (free : Bool) (a b : List Symbol) → free_tokens free (a ++ b) ≡ free_tokens free a ++ free_tokens (free_last free a) b
unfolding free_tokens free_last
free-append free [] b = refl
free-append free (x ∷ a) b =
    ap (with_free free x) (free-append (free_behind_symbol x) a b)
    ∙ with_append free x (free_tokens (free_behind_symbol x) a) (free_tokens (free_last (free_behind_symbol x) a) b)

-- ---- what stands behind a node's leaf or bracket

module _ (ps : List Pair) where
  -- a length stays
  named-length : (free : Bool) {e : List Symbol} {x : Option (List ℕ)} → MayHaveLength e x → named ps free e ≡ e
  unfolding named
  named-length free no_length = refl
  named-length free (a-length h) = refl

  -- so do a label and a length behind a closing bracket
  named-behind : {l e : List Symbol} {x : Option (List ℕ)} → MayHaveLabel l → MayHaveLength e x → named ps false (l ++ e) ≡ l ++ e
  unfolding named
  named-behind no_label q = named-length false q
  named-behind (a-label {w = w}) q = ap (λ (r : List Symbol). token w ∷ r) (named-length true q)

-- a length has no free token
free-length : (free : Bool) {e : List Symbol} {x : Option (List ℕ)} → MayHaveLength e x → free_tokens free e ≡ []
unfolding free_tokens
free-length free no_length = refl
free-length free (a-length h) = refl

-- nor have a label and a length behind a closing bracket
free-behind : {l e : List Symbol} {x : Option (List ℕ)} → MayHaveLabel l → MayHaveLength e x → free_tokens false (l ++ e) ≡ []
unfolding free_tokens
free-behind no_label q = free-length false q
free-behind a-label q = free-length true q

-- ---- renamed nodes

module _ (ps : List Pair) where
  -- as many nodes stand side by side
  width-renamed : (t : Nodes) → width (renamed ps t) ≡ width t
  unfolding width renamed
  width-renamed nil = refl
  width-renamed (leaf w e r) = ap suc (width-renamed r)
  width-renamed (inner c e r) = ap suc (width-renamed r)

  -- nodes side by side are renamed one by one
  renamed-beside : (t k : Nodes) → renamed ps (beside t k) ≡ beside (renamed ps t) (renamed ps k)
  unfolding renamed beside
  renamed-beside nil k = refl
  renamed-beside (leaf w e r) k = ap (leaf (name_of ps w) e) (renamed-beside r k)
  renamed-beside (inner c e r) k = ap (inner (renamed ps c) e) (renamed-beside r k)

  -- each label of a leaf is replaced
  pub leaves-renamed : (t : Nodes) → leaves (renamed ps t) ≡ map (name_of ps) (leaves t)
  unfolding leaves renamed
  leaves-renamed nil = refl
  leaves-renamed (leaf w e r) = ap (λ (l : List (List ℕ)). name_of ps w ∷ l) (leaves-renamed r)
  leaves-renamed (inner c e r) =
      ap₂ (λ (l k : List (List ℕ)). l ++ k) (leaves-renamed c) (leaves-renamed r) ∙ sym (map-append (name_of ps) (leaves c) (leaves r))

  -- there are as many leaves
  count-renamed : (t : Nodes) → length (leaves (renamed ps t)) ≡ length (leaves t)
  count-renamed t = ap length (leaves-renamed t) ∙ length-map (leaves t) (name_of ps)

  -- each inner node spans the same leaves
  pub spans-renamed : (i : ℕ) (t : Nodes) → spans i (renamed ps t) ≡ spans i t
  unfolding spans renamed
  spans-renamed i nil = refl
  spans-renamed i (leaf w e r) = spans-renamed (i + 1) r
  spans-renamed i (inner c e r) =
      ap₂ (λ (l : List ℕ) (n : ℕ). l ++ (i ∷ (i + n) ∷ spans (i + n) (renamed ps r))) (spans-renamed i c) (count-renamed c)
      ∙ ap (λ (l : List ℕ). spans i c ++ (i ∷ (i + length (leaves c)) ∷ l)) (spans-renamed (i + length (leaves c)) r)

-- ---- a node of the grammar

module _ (ps : List Pair) where
  mutual
    unfolding named renamed

    -- with its keys replaced, it is the node with its leaves renamed
    pub node-named : {d : ℕ} {ss : List Symbol} {t : Nodes} → IsNode d ss t → IsNode d (named ps true ss) (renamed ps t)
    node-named (is_leaf q) = rw (named-length ps true q) (is_leaf q)
    node-named (is-inner {ss = ss} {l = l} {e = e} {c = c} z n m p q) =
        is-inner
        (ap (named ps true) z
        ∙ named-append ps true ss (close_bracket ∷ (l ++ e))
        ∙ ap (λ (r : List Symbol). named ps true ss ++ (close_bracket ∷ r)) (named-behind ps p q))
        (nodes-named n)
        (rw (width-renamed ps c) m)
        p
        q

    -- so it is with nodes, commas between
    nodes-named : {d : ℕ} {ss : List Symbol} {t : Nodes} → IsNodes d ss t → IsNodes d (named ps true ss) (renamed ps t)
    nodes-named (is_one n) = is_one (node-named n)
    nodes-named (is-more {ss = ss} {us = us} {t = t} {k = k} y z n m) =
        is-more (ap (named ps true) y ∙ named-append ps true ss (comma ∷ us)) (ap (renamed ps) z ∙ renamed-beside ps t k) (node-named n) (nodes-named m)

mutual
  unfolding free_tokens leaves

  -- its free tokens are the labels of its leaves
  pub node-free : {d : ℕ} {ss : List Symbol} {t : Nodes} → IsNode d ss t → free_tokens true ss ≡ leaves t
  node-free (is_leaf {w = w} q) = ap (λ (r : List (List ℕ)). w ∷ r) (free-length true q)
  node-free (is-inner {ss = ss} {l = l} {e = e} z n m p q) =
      ap (free_tokens true) z
      ∙ free-append true ss (close_bracket ∷ (l ++ e))
      ∙ ap₂ (λ (r v : List (List ℕ)). r ++ v) (nodes-free n) (free-behind p q)

  -- so it is with nodes, commas between
  nodes-free : {d : ℕ} {ss : List Symbol} {t : Nodes} → IsNodes d ss t → free_tokens true ss ≡ leaves t
  nodes-free (is_one n) = node-free n
  nodes-free (is-more {ss = ss} {us = us} {t = t} {k = k} y z n m) =
      ap (free_tokens true) y
      ∙ free-append true ss (comma ∷ us)
      ∙ ap₂ (λ (r v : List (List ℕ)). r ++ v) (node-free n) (nodes-free m)
      ∙ sym (leaves-beside t k)
      ∙ ap leaves (sym z)
