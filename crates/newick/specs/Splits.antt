-- From the records of inner nodes to the splits of a tree.
--
--   inners ns t        the masks of the inner nodes of t, children before their parents
--   Hashed o m p i     p and i are the place and the identifier of the mask m
--   next_splits n m l   the splits l with the side of the cluster m, if it counts
--   Standing o k s     k splits stand in s, rising
--   Taken o f k s r t  of the splits l that stood in s, r stand in t: those of f l
use Rattle.std.specs.Prelude.{◌≡◌, ℕ, ◌+◌, ◌*◌, ◌^◌, ◌<◌, ◌≤◌, List, [], ◌∷◌, ◌++◌, length, if◌then◌else◌}
use Rattle.trees.specs.Mask.{side, proper}
use Rattle.trees.specs.Tree.{Nodes, nil, leaf, inner}
use Rattle.trees.specs.Splits.{taxa, insert}
use Rattle.trees.specs.Hash.{place, identifier}
use Rattle.trees.specs.Opening.{Opening}
use Rattle.theorems.specs.RisingLaws.{Rising}
use Rattle.records.specs.Records.{wide, masks_of, with_records}

unfoldable pub inners : List (List ℕ) → Nodes → List ℕ
unfolding taxa
inners ns nil = []
inners ns (leaf w e r) = inners ns r
inners ns (inner c e r) = inners ns c ++ (taxa ns c ∷ inners ns r)

pub record Hashed (o : Opening) (m p i : ℕ) : Type 0 where
  pub small : m < 2 ^ o.numbers.taxa
  pub placed : p ≡ place o.first o.numbers.places m
  pub identified : i ≡ identifier o.second m

-- the splits l with the side of the cluster m, if it counts
unfoldable pub next_splits : ℕ → ℕ → List ℕ → List ℕ
unfolding insert side proper
next_splits n m l = if proper n (side n m) then insert (side n m) l else l

pub record Standing (o : Opening) (k : ℕ) (s : List ℕ) : Type 0 where
  pub words : s ≡ with_records o (masks_of k s) s
  pub rises : Rising (masks_of k s)
  pub room : wide * k ≤ length s

pub record Taken (o : Opening) (f : List ℕ → List ℕ) (k : ℕ) (s : List ℕ) (r : ℕ) (t : List ℕ) : Type 0 where
  pub least : k ≤ r
  pub most : r ≤ k + 1
  pub count : r ≡ length (f (masks_of k s))
  pub words : t ≡ with_records o (f (masks_of k s)) s
