-- `demanded_words::assess`: its contract is what demand 1 is proved of.
use Rattle.demands.specs.Input.{lent}
use Rattle.demanded_words.proofs.Demanding.{assesses}
use Rattle.demanded_words.proofs.assess.Goals as goal

pub returns : goal.returns
returns c =
    let a = c.args in
    assesses (lent a.xyz.now a.ends.now) a.limit c.nibgravel_assess.ensures
