use Rattle.script_text.proofs.answers.append_answer.Goals as goal

pub returns-in-StatFile : goal.returns-in-StatFile
returns-in-StatFile c = rw (c.in-StatFile.is, ← c.from-in-StatFile.ensures) c.append_pair-in-StatFile.ensures
