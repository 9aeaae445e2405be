-- `recording::accept` meets its contract: 11, 12, or the tree recorded. Assumes nothing.
use mathlib.Core.Path.{refl, ap, ◌∙◌}
use native.Mathlib.Omega.{arith}
use Rattle.trees.specs.Plain.{gives}
use Rattle.trees.specs.Held.{accepted}
use Rattle.answers.specs.Answers.{refusal_number, progress_given}
use Rattle.layout.specs.Store.{parts_at}
use Rattle.layout.specs.WholeFacts.{whole-at-facts}
use Rattle.recording.specs.NewLaws.{new-most}
use Rattle.recording.specs.GrownLaws.{grown-head, grown-kept, lengths-asks, lengths-in}
use Rattle.recording.specs.AcceptLaws.{no-tree-room, no-split-room, refuses, trees-in, rows_in, records}
use Rattle.recording.proofs.accept.Goals as goal

pub trees_held-trees-requires : goal.trees_held-trees-requires
trees_held-trees-requires c = (whole-at-facts _ c.requires.s_value).head.head-there

pub tree_room-requires : goal.tree_room-requires
tree_room-requires c = (whole-at-facts _ c.requires.s_value).head.head-there

pub returns-then-trees-tree_room : goal.returns-then-trees-tree_room
unfolding progress_given refusal_number
returns-then-trees-tree_room c = refuses _ _ _ 11 (no-tree-room _ _ c.requires.s_value (omega arith)) refl

pub find_rows-new-requires : goal.find_rows-new-requires
find_rows-new-requires c = record { s_value = c.requires.s_value; splits_of = c.requires.splits_of; n_in_bounds = omega (arith, c.requires.splits_of.few) }

pub split_room-requires : goal.split_room-requires
split_room-requires c = (whole-at-facts _ c.requires.s_value).head.head-there

pub splits_held-requires : goal.splits_held-requires
splits_held-requires c = (whole-at-facts _ c.requires.s_value).head.head-there

pub overflow_add-splits_held : goal.overflow_add-splits_held
overflow_add-splits_held c = omega (arith, c.find_rows-new.ensures.value, new-most (parts_at c.args.s.now) c.args.records.now c.args.n, c.requires.splits_of.few)

pub returns-then-split_room-splits_held : goal.returns-then-split_room-splits_held
unfolding progress_given refusal_number
returns-then-split_room-splits_held c =
    let f = c.find_rows-new.ensures.value in
    refuses _ _ _ 12 (no-split-room _ _ c.requires.s_value (λ e. omega (arith, c.if-trees-tree_room.false)) (omega (arith, f))) refl

pub add_new-requires : goal.add_new-requires
add_new-requires c = record { s_value = c.requires.s_value; splits_of = c.requires.splits_of; rows_of = c.find_rows-new.ensures.rows_of; records_bound = omega (arith, c.find_rows-new.ensures.value, c.if-split_room-splits_held.false) }

pub put_lengths-requires : goal.put_lengths-requires
put_lengths-requires c =
    let g = c.add_new.ensures in record {
      head_at = (
        grown-head _ c.requires.s_value c.args.n _
            (omega (arith, c.find_rows-new.ensures.value, c.if-split_room-splits_held.false, c.splits_held.ensures.value, c.splits_held.ensures.upper_bound, c.split_room.ensures.value, c.split_room.ensures.upper_bound))
            c.args.n _ g (omega arith),
        g.sound,
      );
      s_bound = trees-in _ c.requires.s_value _ _ c.requires.splits_of (λ e. omega (arith, c.if-trees-tree_room.false)) _ c.find_rows-new.ensures.rows_of _ g;
      n_le_most_splits = c.requires.splits_of.few;
      n_in_bounds = lengths-asks _ _ _ g _ _ c.requires.lengths_of;
    }

pub list_tree-requires : goal.list_tree-requires
list_tree-requires c =
    let g = grown-kept _ _ _ _ c.add_new.ensures c.put_lengths.ensures.becomes in record {
      head_at = (
        grown-head _ c.requires.s_value c.args.n _
            (omega (arith, c.find_rows-new.ensures.value, c.if-split_room-splits_held.false, c.splits_held.ensures.value, c.splits_held.ensures.upper_bound, c.split_room.ensures.value, c.split_room.ensures.upper_bound))
            c.args.n _ g (omega arith),
        g.sound,
      );
      s_bound = trees-in _ c.requires.s_value _ _ c.requires.splits_of (λ e. omega (arith, c.if-trees-tree_room.false)) _ c.find_rows-new.ensures.rows_of _ g;
      n_le_most_splits = (c.requires.splits_of.few, c.find_rows-new.ensures.rows_of.reach);
      rows = rows_in _ c.requires.s_value _ _ c.requires.splits_of (λ e. omega (arith, c.if-trees-tree_room.false)) _ c.find_rows-new.ensures.rows_of _ g;
    }

pub shape_of-s : goal.shape_of-s
shape_of-s c = c.list_tree.ensures.size ∙ c.put_lengths.ensures.becomes.size ∙ c.add_new.ensures.size

pub returns : goal.returns
unfolding progress_given
returns c =
    let w = c.requires.s_value in
    let grown = c.add_new.ensures in
    let lengths = c.put_lengths.ensures in
    let g = grown-kept _ _ _ _ grown lengths.becomes in
    records _ w _ _ c.requires.splits_of
    (λ e. omega (arith, c.if-trees-tree_room.false, c.trees_held-trees.ensures, c.tree_room.ensures.value, c.tree_room.ensures.upper_bound))
    _ c.find_rows-new.ensures.rows_of _ g _ c.requires.lengths_of (lengths-in _ _ _ grown _ _ _ lengths)
    (omega (arith, c.find_rows-new.ensures.value, c.if-split_room-splits_held.false, c.splits_held.ensures.value, c.splits_held.ensures.upper_bound, c.split_room.ensures.value, c.split_room.ensures.upper_bound))
    _ c.list_tree.ensures _ (ap (λ k. gives (accepted k)) c.trees_held-trees.ensures)
