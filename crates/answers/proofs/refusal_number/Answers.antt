-- `answers::refusal_number` meets its contract. Assumes nothing.
use Rattle.answers.specs.Answers.{refusal_number}
use Rattle.answers.proofs.refusal_number.Goals as goal

pub returns-in-NotWhole : goal.returns-in-NotWhole
unfolding refusal_number
returns-in-NotWhole c = rw c.in-NotWhole.is

pub returns-in-OutOfRange : goal.returns-in-OutOfRange
unfolding refusal_number
returns-in-OutOfRange c = rw c.in-OutOfRange.is

pub returns-in-BadNames : goal.returns-in-BadNames
unfolding refusal_number
returns-in-BadNames c = rw c.in-BadNames.is

pub returns-in-TooShort : goal.returns-in-TooShort
unfolding refusal_number
returns-in-TooShort c = rw c.in-TooShort.is

pub returns-in-NoLane : goal.returns-in-NoLane
unfolding refusal_number
returns-in-NoLane c = rw c.in-NoLane.is

pub returns-in-TooLong : goal.returns-in-TooLong
unfolding refusal_number
returns-in-TooLong c = rw c.in-TooLong.is

pub returns-in-BadForm : goal.returns-in-BadForm
unfolding refusal_number
returns-in-BadForm c = rw c.in-BadForm.is

pub returns-in-UnknownLeaf : goal.returns-in-UnknownLeaf
unfolding refusal_number
returns-in-UnknownLeaf c = rw c.in-UnknownLeaf.is

pub returns-in-RepeatedLeaf : goal.returns-in-RepeatedLeaf
unfolding refusal_number
returns-in-RepeatedLeaf c = rw c.in-RepeatedLeaf.is

pub returns-in-MissingTaxon : goal.returns-in-MissingTaxon
unfolding refusal_number
returns-in-MissingTaxon c = rw c.in-MissingTaxon.is

pub returns-in-NoTreeRoom : goal.returns-in-NoTreeRoom
unfolding refusal_number
returns-in-NoTreeRoom c = rw c.in-NoTreeRoom.is

pub returns-in-NoSplitRoom : goal.returns-in-NoSplitRoom
unfolding refusal_number
returns-in-NoSplitRoom c = rw c.in-NoSplitRoom.is

pub returns-in-NoSuchNumber : goal.returns-in-NoSuchNumber
unfolding refusal_number
returns-in-NoSuchNumber c = rw c.in-NoSuchNumber.is

pub returns-in-NoTrees : goal.returns-in-NoTrees
unfolding refusal_number
returns-in-NoTrees c = rw c.in-NoTrees.is

pub returns-in-BadBlock : goal.returns-in-BadBlock
unfolding refusal_number
returns-in-BadBlock c = rw c.in-BadBlock.is

pub returns-in-RepeatedKey : goal.returns-in-RepeatedKey
unfolding refusal_number
returns-in-RepeatedKey c = rw c.in-RepeatedKey.is

pub returns-in-InexactLength : goal.returns-in-InexactLength
unfolding refusal_number
returns-in-InexactLength c = rw c.in-InexactLength.is

pub returns-in-NoLength : goal.returns-in-NoLength
unfolding refusal_number
returns-in-NoLength c = rw c.in-NoLength.is

pub returns-in-BadLength : goal.returns-in-BadLength
unfolding refusal_number
returns-in-BadLength c = rw c.in-BadLength.is

pub returns-in-BadRecord : goal.returns-in-BadRecord
unfolding refusal_number
returns-in-BadRecord c = rw c.in-BadRecord.is

pub returns-in-EmptyFile : goal.returns-in-EmptyFile
unfolding refusal_number
returns-in-EmptyFile c = rw c.in-EmptyFile.is

pub returns-in-SumTooLarge : goal.returns-in-SumTooLarge
unfolding refusal_number
returns-in-SumTooLarge c = rw c.in-SumTooLarge.is

pub returns-in-Disagreeing : goal.returns-in-Disagreeing
unfolding refusal_number
returns-in-Disagreeing c = rw c.in-Disagreeing.is

pub returns-in-BadMatrix : goal.returns-in-BadMatrix
unfolding refusal_number
returns-in-BadMatrix c = rw c.in-BadMatrix.is

pub returns-in-NotSymmetric : goal.returns-in-NotSymmetric
unfolding refusal_number
returns-in-NotSymmetric c = rw c.in-NotSymmetric.is
