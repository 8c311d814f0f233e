use Rattle.std.specs.Str.Parse.{ExplainsUnsignedError, HasUnsignedDigitsIfOk, ParsesUnsigned}
use Rattle.clap.specs.Matches.{found_of}
use Rattle.aec_cli.proofs.JobLemmas.{count_of-read}
use Rattle.aec_cli.proofs.job.sample_count.Goals as goal

pub returns : goal.returns
returns c = count_of-read
    (λ bs r. ParsesUnsigned 64 10 bs r × ExplainsUnsignedError 10 bs r × HasUnsignedDigitsIfOk bs r)
    (found_of c.args.matches.now) c.get_one.result (λ t x g. g.0) c.get_one.ensures.none c.get_one.ensures.value
