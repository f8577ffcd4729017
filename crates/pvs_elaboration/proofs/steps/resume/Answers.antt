use Rattle.pvs_elaboration.proofs.steps.resume.Goals as goal

pub returns-in-Several : goal.returns-in-Several
returns-in-Several g c = λ t l. rw c.in-Several.is (c.resume_several.ensures t)

pub returns-in-Names : goal.returns-in-Names
returns-in-Names g c = λ t l. rw c.in-Names.is (c.resume_names.ensures t)
