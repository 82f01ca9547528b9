use Rattle.run_file.proofs.Benches.{parsed_good}
use Rattle.run_file.proofs.laws.texts_say_run_files.Goals as goal

pub returns : goal.returns
returns c = parsed_good
