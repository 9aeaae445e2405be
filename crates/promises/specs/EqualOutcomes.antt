-- The promises of inner functions that say what the answer is equal to, or a buffer, leave one outcome. Each theorem is over the function's
-- own `Post`. Assumes nothing.
--
--   fields      get16-once, get32-once, get64-once, put16-once, put32-once, put64-once, copy-within-once, copy-from-once, clear-run-
--               once
--   masks       is-within-once, are-apart-once, is-proper-once, count-taxa-once, lowest-taxon-once, comes-before-once, is-same-once,
--               is-empty-once, every-taxon-once, side-once, union-of-once, taxa-without-once, without-lowest-once, has-taxon-once,
--               only-taxon-once
--   text        is-blank-once, is-label-byte-once, is-quoted-byte-once, has-byte-once, text-end-once, count-texts-once,
--               open-after-once, is-plain-label-once, read-label-once, read-up-to-once
--   words       decimal-once
--   records     mask-of-once, place-of-once, identifier-of-once, insert-record-once, put-record-once
--   head        taxa-once, lanes-once, tree-room-once, split-room-once, places-once, kept-once, first-constant-once,
--               second-constant-once, find-taxon-once, has-name-once, key-of-once, same-runs-once
--   opening     numbers-in-range-once, constants-good-once, read-names-once, names-good-once, store-size-once, write-head-once
--   layout      trees-held-once, splits-held-once, lane-from-once, tree-from-once, masks-from-once, identifiers-from-once, counts-
--               from-once, links-from-once, order-from-once, places-from-once, branches-from-once, lengths-from-once, number16-once
--   rows        row-of-once, mask-at-once, identifier-at-once, count-at-once, link-at-once, start-at-once, rows-tree-from-once,
--               splits-in-once, row-in-once, copy-tree-once
--   lanes       lane-length-once, text-of-once, quotes-open-once, closing-answer-once
--   distances   distances-one-sided-once, distances-doubled-once, write-row-once, distances-write-matrix-once
--   colliding   collision-number-once
--   consensus   write-strict-once, write-majority-once
use Rattle.std.specs.Prelude.{◌≡◌, false}
use Rattle.fields.proofs.get16.Reads as get16
use Rattle.fields.proofs.get32.Reads as get32
use Rattle.fields.proofs.get64.Reads as get64
use Rattle.fields.proofs.put16.Reads as put16
use Rattle.fields.proofs.put32.Reads as put32
use Rattle.fields.proofs.put64.Reads as put64
use Rattle.fields.proofs.copy_within.Reads as copy_within
use Rattle.fields.proofs.copy_from.Reads as copy-from
use Rattle.fields.proofs.clear_run.Reads as clear-run
use Rattle.masks.proofs.is_within.Reads as is_Within
use Rattle.masks.proofs.are_apart.Reads as are-apart
use Rattle.masks.proofs.is_proper.Reads as is-proper
use Rattle.masks.proofs.count_taxa.Reads as count-taxa
use Rattle.masks.proofs.lowest_taxon.Reads as lowest-taxon
use Rattle.masks.proofs.comes_before.Reads as comes-before
use Rattle.masks.proofs.is_same.Reads as is_same
use Rattle.masks.proofs.is_empty.Reads as is-empty
use Rattle.masks.proofs.every_taxon.Reads as every-taxon
use Rattle.masks.proofs.side.Reads as side
use Rattle.masks.proofs.union_of.Reads as union-of
use Rattle.masks.proofs.taxa_without.Reads as taxa-without
use Rattle.masks.proofs.without_lowest.Reads as without-lowest
use Rattle.masks.proofs.has_taxon.Reads as has-taxon
use Rattle.masks.proofs.only_taxon.Reads as only-taxon
use Rattle.text.proofs.is_blank.Reads as is-blank
use Rattle.text.proofs.is_label_byte.Reads as is-label-byte
use Rattle.text.proofs.is_quoted_byte.Reads as is-quoted-byte
use Rattle.text.proofs.has_byte.Reads as has-byte
use Rattle.text.proofs.text_end.Reads as text-end
use Rattle.text.proofs.count_texts.Reads as count-texts
use Rattle.text.proofs.open_after.Reads as Open-after
use Rattle.text.proofs.is_plain_label.Reads as is-plain-label
use Rattle.text.proofs.read_label.Reads as read-label
use Rattle.text.proofs.read_up_to.Reads as read-up-to
use Rattle.words.proofs.decimal.Reads as decimal
use Rattle.records.proofs.mask_of.Reads as mask-of
use Rattle.records.proofs.place_of.Reads as place_of
use Rattle.records.proofs.identifier_of.Reads as identifier-of
use Rattle.records.proofs.insert_record.Reads as insert-record
use Rattle.records.proofs.put_record.Reads as put_record
use Rattle.head.proofs.taxa.Reads as taxa
use Rattle.head.proofs.lanes.Reads as lanes
use Rattle.head.proofs.tree_room.Reads as tree-room
use Rattle.head.proofs.split_room.Reads as split-room
use Rattle.head.proofs.places.Reads as places
use Rattle.head.proofs.kept.Reads as kept
use Rattle.head.proofs.first_constant.Reads as first-constant
use Rattle.head.proofs.second_constant.Reads as second-constant
use Rattle.head.proofs.find_taxon.Reads as find-taxon
use Rattle.head.proofs.has_name.Reads as has-name
use Rattle.head.proofs.key_of.Reads as key_of
use Rattle.head.proofs.same_runs.Reads as same_runs
use Rattle.opening.proofs.numbers_in_range.Reads as numbers-in-range
use Rattle.opening.proofs.constants_good.Reads as constants-good
use Rattle.opening.proofs.read_names.Reads as read_names
use Rattle.opening.proofs.names_good.Reads as names-good
use Rattle.opening.proofs.store_size.Reads as store-size
use Rattle.opening.proofs.write_head.Reads as write-head
use Rattle.layout.proofs.trees_held.Reads as trees-held
use Rattle.layout.proofs.splits_held.Reads as splits-held
use Rattle.layout.proofs.lane_from.Reads as lane-from
use Rattle.layout.proofs.tree_from.Reads as tree-from
use Rattle.layout.proofs.masks_from.Reads as masks-from
use Rattle.layout.proofs.identifiers_from.Reads as identifiers-from
use Rattle.layout.proofs.counts_from.Reads as counts-from
use Rattle.layout.proofs.links_from.Reads as links-from
use Rattle.layout.proofs.order_from.Reads as order_from
use Rattle.layout.proofs.places_from.Reads as places-from
use Rattle.layout.proofs.branches_from.Reads as branches-from
use Rattle.layout.proofs.lengths_from.Reads as lengths-from
use Rattle.layout.proofs.number16.Reads as number16
use Rattle.rows.proofs.row_of.Reads as row_of
use Rattle.rows.proofs.mask_at.Reads as mask_at
use Rattle.rows.proofs.identifier_at.Reads as identifier-at
use Rattle.rows.proofs.count_at.Reads as count_at
use Rattle.rows.proofs.link_at.Reads as link_at
use Rattle.rows.proofs.start_at.Reads as start-at
use Rattle.rows.proofs.tree_from.Reads as rows-tree-from
use Rattle.rows.proofs.splits_in.Reads as splits-in
use Rattle.rows.proofs.row_in.Reads as row_in
use Rattle.rows.proofs.copy_tree.Reads as copy-tree
use Rattle.lanes.proofs.lane_length.Reads as lane-length
use Rattle.lanes.proofs.text_of.Reads as text_of
use Rattle.lanes.proofs.quotes_open.Reads as quotes-open
use Rattle.lanes.proofs.closing_answer.Reads as closing-answer
use Rattle.distances.proofs.one_sided.Reads as distances-one-sided
use Rattle.distances.proofs.doubled.Reads as distances-doubled
use Rattle.distances.proofs.write_row.Reads as write-row
use Rattle.distances.proofs.write_matrix.Reads as distances-write-matrix
use Rattle.colliding.proofs.collision_number.Reads as collision-number
use Rattle.consensus.proofs.write_strict.Reads as write-strict
use Rattle.consensus.proofs.write_majority.Reads as write-majority
use Rattle.promises.specs.Once.{Once, AnswerOnce, arg1, arg2, arg3, arg4}
use Rattle.promises.specs.Outcomes.{both, finish-both, filled-both}

-- ---- numbers in bytes, runs of bytes

pub get16-once : AnswerOnce get16.Post
get16-once k x q r y z a b = both a b

pub get32-once : AnswerOnce get32.Post
get32-once k x q r y z a b = both a b

pub get64-once : AnswerOnce get64.Post
get64-once k x q r y z a b = both a b

pub put16-once : Once put16.Post (λ x q r y z. (arg1 y).now ≡ (arg1 z).now)
put16-once k x q r y z a b = both a b

pub put32-once : Once put32.Post (λ x q r y z. (arg1 y).now ≡ (arg1 z).now)
put32-once k x q r y z a b = both a b

pub put64-once : Once put64.Post (λ x q r y z. (arg1 y).now ≡ (arg1 z).now)
put64-once k x q r y z a b = both a b

pub copy-within-once : Once copy_within.Post (λ x q r y z. (arg1 y).now ≡ (arg1 z).now)
copy-within-once k x q r y z a b = both a b

pub copy-from-once : Once copy-from.Post (λ x q r y z. (arg1 y).now ≡ (arg1 z).now)
copy-from-once k x q r y z a b = both a b

pub clear-run-once : Once clear-run.Post (λ x q r y z. (arg1 y).now ≡ (arg1 z).now)
clear-run-once k x q r y z a b = both a b

-- ---- masks

pub is-within-once : AnswerOnce is_Within.Post
is-within-once k x q r y z a b = both a b

pub are-apart-once : AnswerOnce are-apart.Post
are-apart-once k x q r y z a b = both a b

pub is-proper-once : AnswerOnce is-proper.Post
is-proper-once k x q r y z a b = both a b

pub count-taxa-once : AnswerOnce count-taxa.Post
count-taxa-once k x q r y z a b = both a.0 b.0

pub lowest-taxon-once : AnswerOnce lowest-taxon.Post
lowest-taxon-once k x q r y z a b = λ i. record { 0 = both a.0 b.0 i }

pub comes-before-once : AnswerOnce comes-before.Post
comes-before-once k x q r y z a b = both a b

pub is-same-once : AnswerOnce is_same.Post
is-same-once k x q r y z a b = both a b

pub is-empty-once : AnswerOnce is-empty.Post
is-empty-once k x q r y z a b = both a b

pub every-taxon-once : AnswerOnce every-taxon.Post
every-taxon-once k x q r y z a b = both a b

pub side-once : AnswerOnce side.Post
side-once k x q r y z a b = both a b

pub union-of-once : AnswerOnce union-of.Post
union-of-once k x q r y z a b = both a b

pub taxa-without-once : AnswerOnce taxa-without.Post
taxa-without-once k x q r y z a b = both a b

pub without-lowest-once : AnswerOnce without-lowest.Post
without-lowest-once k x q r y z a b = both a b

pub has-taxon-once : AnswerOnce has-taxon.Post
has-taxon-once k x q r y z a b = both a b

pub only-taxon-once : AnswerOnce only-taxon.Post
only-taxon-once k x q r y z a b = both a b

-- ---- text, words, records

pub is-blank-once : AnswerOnce is-blank.Post
is-blank-once k x q r y z a b = both a.0 b.0

pub is-label-byte-once : AnswerOnce is-label-byte.Post
is-label-byte-once k x q r y z a b = both a b

pub is-quoted-byte-once : AnswerOnce is-quoted-byte.Post
is-quoted-byte-once k x q r y z a b = both a b

pub has-byte-once : AnswerOnce has-byte.Post
has-byte-once k x q r y z a b = both a b

pub text-end-once : AnswerOnce text-end.Post
text-end-once k x q r y z a b = both a.0 b.0

pub count-texts-once : AnswerOnce count-texts.Post
count-texts-once k x q r y z a b = both a b

pub open-after-once : AnswerOnce Open-after.Post
open-after-once k x q r y z a b = both a b

pub is-plain-label-once : AnswerOnce is-plain-label.Post
is-plain-label-once k x q r y z a b = both a b

pub read-label-once : Once read-label.Post (λ x q r y z. (q ≡ r) × ((arg4 y).now ≡ (arg4 z).now))
read-label-once k x q r y z a b = (both a.counted b.counted, both a.stored b.stored)

pub read-up-to-once : Once read-up-to.Post (λ x q r y z. (q ≡ r) × ((arg4 y).now ≡ (arg4 z).now))
read-up-to-once k x q r y z a b = (both a.counted b.counted, both a.stored b.stored)

pub decimal-once : AnswerOnce decimal.Post
decimal-once k x q r y z a b = both a b

pub mask-of-once : AnswerOnce mask-of.Post
mask-of-once k x q r y z a b = both a b

pub place-of-once : AnswerOnce place_of.Post
place-of-once k x q r y z a b = both a b

pub identifier-of-once : AnswerOnce identifier-of.Post
identifier-of-once k x q r y z a b = both a b

pub insert-record-once : Once insert-record.Post (λ x q r y z. (arg1 y).now ≡ (arg1 z).now)
insert-record-once k x q r y z a b = both a b

pub put-record-once : Once put_record.Post (λ x q r y z. (arg1 y).now ≡ (arg1 z).now)
put-record-once k x q r y z a b = both a b

-- ---- the head of a store

pub taxa-once : AnswerOnce taxa.Post
taxa-once k x q r y z a b = both a.0 b.0

pub lanes-once : AnswerOnce lanes.Post
lanes-once k x q r y z a b = both a.0 b.0

pub tree-room-once : AnswerOnce tree-room.Post
tree-room-once k x q r y z a b = both a.0 b.0

pub split-room-once : AnswerOnce split-room.Post
split-room-once k x q r y z a b = both a.0 b.0

pub places-once : AnswerOnce places.Post
places-once k x q r y z a b = both a.0 b.0

pub kept-once : AnswerOnce kept.Post
kept-once k x q r y z a b = both a.0 b.0

pub first-constant-once : AnswerOnce first-constant.Post
first-constant-once k x q r y z a b = both a.0 b.0

pub second-constant-once : AnswerOnce second-constant.Post
second-constant-once k x q r y z a b = both a b

pub find-taxon-once : AnswerOnce find-taxon.Post
find-taxon-once k x q r y z a b = both a.0 b.0

pub has-name-once : AnswerOnce has-name.Post
has-name-once k x q r y z a b = both a b

pub key-of-once : AnswerOnce key_of.Post
key-of-once k x q r y z a b = both a.0 b.0

pub same-runs-once : AnswerOnce same_runs.Post
same-runs-once k x q r y z a b = both a b

-- ---- opening

pub numbers-in-range-once : AnswerOnce numbers-in-range.Post
numbers-in-range-once k x q r y z a b = both (a false) (b false)

pub constants-good-once : AnswerOnce constants-good.Post
constants-good-once k x q r y z a b = both (a 0 0 0 false) (b 0 0 0 false)

pub read-names-once : AnswerOnce read_names.Post
read-names-once k x q r y z a b = both a.0 b.0

pub names-good-once : AnswerOnce names-good.Post
names-good-once k x q r y z a b = both a b

pub store-size-once : AnswerOnce store-size.Post
store-size-once k x q r y z a b = both a b

pub write-head-once : Once write-head.Post (λ x q r y z. (arg1 y).now ≡ (arg1 z).now)
write-head-once k x q r y z a b = both a.0 b.0

-- ---- where things stand

pub trees-held-once : AnswerOnce trees-held.Post
trees-held-once k x q r y z a b = both a b

pub splits-held-once : AnswerOnce splits-held.Post
splits-held-once k x q r y z a b = both a.0 b.0

pub lane-from-once : AnswerOnce lane-from.Post
lane-from-once k x q r y z a b = both a.0 b.0

pub tree-from-once : AnswerOnce tree-from.Post
tree-from-once k x q r y z a b = both a.0 b.0

pub masks-from-once : AnswerOnce masks-from.Post
masks-from-once k x q r y z a b = both a.0 b.0

pub identifiers-from-once : AnswerOnce identifiers-from.Post
identifiers-from-once k x q r y z a b = both a.0 b.0

pub counts-from-once : AnswerOnce counts-from.Post
counts-from-once k x q r y z a b = both a.0 b.0

pub links-from-once : AnswerOnce links-from.Post
links-from-once k x q r y z a b = both a.0 b.0

pub order-from-once : AnswerOnce order_from.Post
order-from-once k x q r y z a b = both a.0 b.0

pub places-from-once : AnswerOnce places-from.Post
places-from-once k x q r y z a b = both a.0 b.0

pub branches-from-once : AnswerOnce branches-from.Post
branches-from-once k x q r y z a b = both a.0 b.0

pub lengths-from-once : AnswerOnce lengths-from.Post
lengths-from-once k x q r y z a b = both a.0 b.0

pub number16-once : AnswerOnce number16.Post
number16-once k x q r y z a b = both a.0 b.0

-- ---- rows, lanes

pub row-of-once : AnswerOnce row_of.Post
row-of-once k x q r y z a b = both a b

pub mask-at-once : AnswerOnce mask_at.Post
mask-at-once k x q r y z a b = both a b

pub identifier-at-once : AnswerOnce identifier-at.Post
identifier-at-once k x q r y z a b = both a b

pub count-at-once : AnswerOnce count_at.Post
count-at-once k x q r y z a b = both a b

pub link-at-once : AnswerOnce link_at.Post
link-at-once k x q r y z a b = both a b

pub start-at-once : AnswerOnce start-at.Post
start-at-once k x q r y z a b = both a b

pub rows-tree-from-once : AnswerOnce rows-tree-from.Post
rows-tree-from-once k x q r y z a b = both a.0 b.0

pub splits-in-once : AnswerOnce splits-in.Post
splits-in-once k x q r y z a b = both a b

pub row-in-once : AnswerOnce row_in.Post
row-in-once k x q r y z a b = both a b

pub copy-tree-once : Once copy-tree.Post (λ x q r y z. (arg3 y).now ≡ (arg3 z).now)
copy-tree-once k x q r y z a b = both a b

pub lane-length-once : AnswerOnce lane-length.Post
lane-length-once k x q r y z a b = both a.0 b.0

pub text-of-once : Once text_of.Post (λ x q r y z. q.now ≡ r.now)
text-of-once k x q r y z a b = both a b

pub quotes-open-once : AnswerOnce quotes-open.Post
quotes-open-once k x q r y z a b = both a b

pub closing-answer-once : AnswerOnce closing-answer.Post
closing-answer-once k x q r y z a b = finish-both q r a b

-- ---- distances, collisions

pub distances-one-sided-once : AnswerOnce distances-one-sided.Post
distances-one-sided-once k x q r y z a b = both a b

pub distances-doubled-once : AnswerOnce distances-doubled.Post
distances-doubled-once k x q r y z a b = both a b

pub write-row-once : Once write-row.Post (λ x q r y z. (arg3 y).now ≡ (arg3 z).now)
write-row-once k x q r y z a b = both a b

pub distances-write-matrix-once : Once distances-write-matrix.Post (λ x q r y z. (arg2 y).now ≡ (arg2 z).now)
distances-write-matrix-once k x q r y z a b = both a b

pub collision-number-once : AnswerOnce collision-number.Post
collision-number-once k x q r y z a b = both a b

-- ---- the consensus trees of a whole store

pub write-strict-once : Once write-strict.Post (λ x q r y z. (q ≡ r) × ((arg2 y).now ≡ (arg2 z).now))
write-strict-once k x q r y z a b = filled-both q r a b

pub write-majority-once : Once write-majority.Post (λ x q r y z. (q ≡ r) × ((arg2 y).now ≡ (arg2 z).now))
write-majority-once k x q r y z a b = filled-both q r a b
