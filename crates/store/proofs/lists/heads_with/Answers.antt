-- `store::lists::heads_with` meets its contract. Assumes nothing.
use Rattle.store.proofs.lists.heads_with.Goals as goal

pub returns : goal.returns
returns c = cc
