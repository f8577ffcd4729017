use Rattle.pvs_elaboration.proofs.several.resume_names.Goals as goal

pub returns-in-Done : goal.returns-in-Done
returns-in-Done g c = λ t. rw (c.in-Tuple.is, c.in-Done.is) (c.name_tuple.ensures t)

pub returns-in-Term : goal.returns-in-Term
returns-in-Term g c = λ t. rw (c.in-First.is, c.in-Term.is) (c.name_first.ensures t)

pub returns-in-Term-value : goal.returns-in-Term-value
returns-in-Term-value g c = λ t. rw (c.in-Second.is, c.in-Term-value.is) (c.name_second.ensures t)
