-- The promises of functions that put bytes into a buffer, and of those that find what is put, leave one outcome each: the answer, and every
-- element of the buffers. Assumes nothing.
--
--   put-byte-once, put-word-once, put-number-once, put-counted-once, put-spaces-once, put-end-once     bytes, words and numbers
--   write-name-once, widest-in-once, child-mask-once     a name, and a node's children
--   majority-groups-once, put-groups-once, put-stand-ins-once     the groups of the majority tree, their lines, and those of stand-ins
--   put-drawing-once                                     the tree drawn
--   put-counts-once, put-split-once, put-majority-once, put-strict-once     lines of a sheet
use Rattle.std.specs.Prelude.{ℕ, ◌≡◌, List, ◌++◌, map, drop}
use Rattle.std.proofs.Common.{sym, ap, ◌∙◌}
use Rattle.trees.specs.Consensus.{count, majority}
use Rattle.layout.specs.Store.{held_at}
use Rattle.putting.specs.Put.{Put}
use Rattle.putting.proofs.put_byte.Reads as put_byte
use Rattle.putting.proofs.put_word.Reads as put_word
use Rattle.putting.proofs.put_number.Reads as put-number
use Rattle.putting.proofs.put_counted.Reads as put-counted
use Rattle.putting.proofs.put_spaces.Reads as put-spaces
use Rattle.putting.proofs.put_end.Reads as put-end
use Rattle.writer.proofs.write_name.Reads as write-name
use Rattle.writer.proofs.widest_in.Reads as widest-in
use Rattle.writer.proofs.child_mask.Reads as child-mask
use Rattle.grouping.proofs.majority_groups.Reads as majority-groups
use Rattle.grouping.proofs.put_groups.Reads as put-groups
use Rattle.grouping.proofs.put_stand_ins.Reads as put-stand-ins
use Rattle.drawing.proofs.put_drawing.Reads as put-drawing
use Rattle.sheet.proofs.put_counts.Reads as put-counts
use Rattle.sheet.proofs.put_split.Reads as put-split
use Rattle.sheet.proofs.put_majority.Reads as put-majority
use Rattle.sheet.proofs.put_strict.Reads as put-strict
use Rattle.promises.specs.Once.{Once, AnswerOnce, arg1, arg2, arg3}
use Rattle.promises.specs.Outcomes.{both}

put_both : {l w u v : List ℕ} {at e f : ℕ} → Put l at w u e → Put l at w v f → (e ≡ f) × (u ≡ v)
put_both p q = (both p.ends q.ends, both p.stored q.stored)

pub put-byte-once : Once put_byte.Post (λ x q r y z. (arg1 y).now ≡ (arg1 z).now)
put-byte-once k x q r y z a b = both a b

pub put-word-once : Once put_word.Post (λ x q r y z. (q ≡ r) × ((arg1 y).now ≡ (arg1 z).now))
put-word-once k x q r y z a b = put_both a b

pub put-number-once : Once put-number.Post (λ x q r y z. (q ≡ r) × ((arg1 y).now ≡ (arg1 z).now))
put-number-once k x q r y z a b = put_both a.0 b.0

pub put-counted-once : Once put-counted.Post (λ x q r y z. (q ≡ r) × ((arg1 y).now ≡ (arg1 z).now))
put-counted-once k x q r y z a b = put_both a.0 b.0

pub put-spaces-once : Once put-spaces.Post (λ x q r y z. (arg1 y).now ≡ (arg1 z).now)
put-spaces-once k x q r y z a b = both a.stored b.stored

pub put-end-once : Once put-end.Post (λ x q r y z. (q ≡ r) × ((arg1 y).now ≡ (arg1 z).now))
put-end-once k x q r y z a b = put_both a b

pub write-name-once : Once write-name.Post (λ x q r y z. (q ≡ r) × ((arg3 y).now ≡ (arg3 z).now))
write-name-once k x q r y z a b = put_both a b

pub widest-in-once : AnswerOnce widest-in.Post
widest-in-once k x q r y z a b = both a b

pub child-mask-once : AnswerOnce child-mask.Post
child-mask-once k x q r y z a b = both a b

-- as many behind the front
front-both : (l t : List ℕ) {u v : List ℕ} {m n : ℕ} → m ≡ n → u ≡ t ++ drop m l → v ≡ t ++ drop n l → u ≡ v
front-both l t e p q = p ∙ ap (λ (i : ℕ). t ++ drop i l) e ∙ sym q

pub majority-groups-once : Once majority-groups.Post (λ x q r y z. (q ≡ r) × ((arg2 y).now ≡ (arg2 z).now) × ((arg3 y).now ≡ (arg3 z).now))
majority-groups-once k x q r y z a b =
    let e = both a.0 b.0 in
    let ts = (held_at (arg1 x).now).trees in
    (e, front-both (arg2 x).now (majority ts) e a.1.0 b.1.0, front-both (arg3 x).now (map (count ts) (majority ts)) e a.1.1 b.1.1)

pub put-groups-once : Once put-groups.Post (λ x q r y z. (q ≡ r) × ((arg2 y).now ≡ (arg2 z).now))
put-groups-once k x q r y z a b = put_both a.0 b.0

pub put-stand-ins-once : Once put-stand-ins.Post (λ x q r y z. (q ≡ r) × ((arg3 y).now ≡ (arg3 z).now))
put-stand-ins-once k x q r y z a b = put_both a.0 b.0

pub put-drawing-once : Once put-drawing.Post (λ x q r y z. (q ≡ r) × ((arg2 y).now ≡ (arg2 z).now))
put-drawing-once k x q r y z a b = put_both a.0 b.0

pub put-counts-once : Once put-counts.Post (λ x q r y z. (q ≡ r) × ((arg3 y).now ≡ (arg3 z).now))
put-counts-once k x q r y z a b = put_both a.0 b.0

pub put-split-once : Once put-split.Post (λ x q r y z. (q ≡ r) × ((arg3 y).now ≡ (arg3 z).now))
put-split-once k x q r y z a b = put_both a.0 b.0

pub put-majority-once : Once put-majority.Post (λ x q r y z. (q ≡ r) × ((arg3 y).now ≡ (arg3 z).now))
put-majority-once k x q r y z a b = put_both a.0 b.0

pub put-strict-once : Once put-strict.Post (λ x q r y z. (q ≡ r) × ((arg3 y).now ≡ (arg3 z).now))
put-strict-once k x q r y z a b = put_both a.0 b.0
