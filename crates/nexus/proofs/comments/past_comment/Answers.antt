-- `nexus::comments::past_comment` meets its contract. Assumes nothing.
use Rattle.nexus.specs.CommentLaws.{comment-ended}
use Rattle.nexus.proofs.comments.past_comment.Goals as goal

pub returns : goal.returns
returns c = comment-ended _ _ _ c.past_next.ensures
