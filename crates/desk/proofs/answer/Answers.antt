use Rattle.desk.proofs.answer.Goals as goal

pub say_rehearsal-requires : goal.say_rehearsal-requires
say_rehearsal-requires g c = rw c.in-Rehearse.is at c.requires

pub say_bytes-requires : goal.say_bytes-requires
say_bytes-requires g c = rw c.in-Bytes.is at c.requires

pub say_text-requires : goal.say_text-requires
say_text-requires g c = rw c.in-Text.is at c.requires

pub say_figure-requires : goal.say_figure-requires
say_figure-requires g c = rw c.in-Figure.is at c.requires

pub returns-in-Rehearse : goal.returns-in-Rehearse
returns-in-Rehearse g c = rw c.in-Rehearse.is c.say_rehearsal.ensures

pub returns-in-Bytes : goal.returns-in-Bytes
returns-in-Bytes g c = rw c.in-Bytes.is c.say_bytes.ensures

pub returns-in-Text : goal.returns-in-Text
returns-in-Text g c = rw c.in-Text.is c.say_text.ensures

pub returns-in-Figure : goal.returns-in-Figure
returns-in-Figure g c = rw c.in-Figure.is c.say_figure.ensures
