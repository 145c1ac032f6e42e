use Rattle.rule_group.proofs.refuting.refutes_part.Goals as goal

pub returns-in-Group : goal.returns-in-Group
returns-in-Group c = λ yes. rw c.in-Group.is (c.refutes_group.ensures yes)
