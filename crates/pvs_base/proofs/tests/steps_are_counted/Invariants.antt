use Rattle.pvs_base.proofs.tests.steps_are_counted.Given as goal

-- the ledger that the blank opens
abbrev pub ghosts-two_steps : goal.ghosts-two_steps
ghosts-two_steps g a = record { name = a.blank.name; parts = a.blank.parts }
