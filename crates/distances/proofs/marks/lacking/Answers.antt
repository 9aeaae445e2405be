-- `distances::marks::lacking` meets its contract: the sum of the marks is how many rows tree i lacks. Assumes nothing.
use Rattle.std.proofs.Common.{length, sym, ap, ◌∙◌, arith}
use Rattle.layout.specs.Store.{list_at}
use Rattle.distances.specs.Marks.{mark_sum}
use Rattle.distances.specs.WholeTreeLaws.{list-few, row-few, list_same}
use Rattle.distances.specs.LackLaws.{one_sided-most}
use Rattle.distances.specs.MarkLaws.{marks_of-length, sum-lacks}
use Rattle.distances.proofs.marks.lacking.Goals as goal

pub sum_marks-requires : goal.sum_marks-requires
sum_marks-requires c = record { s_value = c.requires.s_value; marks_len = ap length c.requires.marks_value ∙ marks_of-length _; j_bound = c.requires.j_bound }

pub returns : goal.returns
returns c =
    let s = c.args.s.now in
    let a = list_at s c.args.j in
    let b = list_at s c.args.i in
    let e = ap (λ m. mark_sum m a) c.requires.marks_value ∙ sum-lacks a b (row-few s c.requires.s_value c.args.j c.requires.j_bound) in
    let n = c.sum_marks.ensures ∙ e in record { value = n ∙ sym (list_same s c.requires.s_value c.args.j c.args.i c.requires.j_bound c.requires.i_bound); upper_bound = omega (arith, n, one_sided-most a b, list-few s c.requires.s_value c.args.j c.requires.j_bound) }
