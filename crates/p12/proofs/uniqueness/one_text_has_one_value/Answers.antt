use Rattle.asn1_core.specs.StandLaws.{whole_sole}
use Rattle.p12.proofs.AlgorithmRows.{algorithm-exact, digest-exact, mac-exact, params-exact}
use Rattle.p12.proofs.BagRows.{attribute-exact, bag-exact, cert_bag-exact, encrypted_key-exact, kind_front-exact}
use Rattle.p12.proofs.ContentRows.{content-exact, encrypted_content-exact, encrypted_data-exact}
use Rattle.p12.proofs.uniqueness.one_text_has_one_value.Goals as goal

pub returns-clause-params : goal.returns-clause-params
returns-clause-params c = whole_sole _ _ params-exact

pub returns-clause-algorithm : goal.returns-clause-algorithm
returns-clause-algorithm c = whole_sole _ _ algorithm-exact

pub returns-clause-digest : goal.returns-clause-digest
returns-clause-digest c = whole_sole _ _ digest-exact

pub returns-clause-mac : goal.returns-clause-mac
returns-clause-mac c = whole_sole _ _ mac-exact

pub returns-clause-encrypted_content : goal.returns-clause-encrypted_content
returns-clause-encrypted_content c = whole_sole _ _ encrypted_content-exact

pub returns-clause-encrypted_data : goal.returns-clause-encrypted_data
returns-clause-encrypted_data c = whole_sole _ _ encrypted_data-exact

pub returns-clause-content : goal.returns-clause-content
returns-clause-content c = whole_sole _ _ content-exact

pub returns-clause-encrypted_key : goal.returns-clause-encrypted_key
returns-clause-encrypted_key c = whole_sole _ _ encrypted_key-exact

pub returns-clause-certificate : goal.returns-clause-certificate
returns-clause-certificate c = whole_sole _ _ cert_bag-exact

pub returns-clause-attribute : goal.returns-clause-attribute
returns-clause-attribute c = whole_sole _ _ attribute-exact

pub returns-clause-bag : goal.returns-clause-bag
returns-clause-bag c = whole_sole _ _ bag-exact

pub returns-clause-kind : goal.returns-clause-kind
returns-clause-kind c = λ k. whole_sole _ _ (kind_front-exact k)
