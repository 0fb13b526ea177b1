use Rattle.reflector.proofs.reader.Reflector.ask.Goals as goal

pub returns-then-self-clause-answer : goal.returns-then-self-clause-answer
returns-then-self-clause-answer g c = c.list.ensures.answer c.args.most
