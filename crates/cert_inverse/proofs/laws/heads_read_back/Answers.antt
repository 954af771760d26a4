use Rattle.cert_inverse.proofs.HeadsAgain.{heads_again}
use Rattle.cert_inverse.proofs.laws.heads_read_back.Goals as goal

pub returns : goal.returns
returns c = λ sheet form options paper form_is own fits links modules. heads_again sheet form options paper own fits (record { form_is = form_is; links = links; modules = modules })
