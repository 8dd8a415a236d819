use Rattle.asn1_core.specs.StandLaws.{whole_sole}
use Rattle.p12.proofs.Again.{algorithm_again, attribute_again, attribute_once, bag_again, bag_once, bags_again, bags_once, cert_bag_again, content_again, contents_again, digest_again, encrypted_content_again, encrypted_data_again, encrypted_key_again, kind_text_again, mac_again, params_again, store_again}
use Rattle.p12.proofs.AlgorithmRows.{algorithm-exact, digest-exact, mac-exact, params-exact}
use Rattle.p12_laws.proofs.Alike.{alike, alike_exactly}
use Rattle.p12.proofs.BagRows.{attribute-exact, bag-exact, bags-exact, cert_bag-exact, encrypted_key-exact, kind_front-exact}
use Rattle.p12.proofs.ContentRows.{content-exact, contents-exact, encrypted_content-exact, encrypted_data-exact, pfx-exact}
use Rattle.p12_laws.proofs.rereading.what_was_read_is_written_alike.Goals as goal

pub returns-clause-params : goal.returns-clause-params
returns-clause-params c = alike_exactly _ _ params_again (whole_sole _ _ params-exact)

pub returns-clause-algorithm : goal.returns-clause-algorithm
returns-clause-algorithm c = alike_exactly _ _ algorithm_again (whole_sole _ _ algorithm-exact)

pub returns-clause-digest : goal.returns-clause-digest
returns-clause-digest c = alike_exactly _ _ digest_again (whole_sole _ _ digest-exact)

pub returns-clause-mac : goal.returns-clause-mac
returns-clause-mac c = alike_exactly _ _ mac_again (whole_sole _ _ mac-exact)

pub returns-clause-encrypted_content : goal.returns-clause-encrypted_content
returns-clause-encrypted_content c = alike_exactly _ _ encrypted_content_again (whole_sole _ _ encrypted_content-exact)

pub returns-clause-encrypted_data : goal.returns-clause-encrypted_data
returns-clause-encrypted_data c = alike_exactly _ _ encrypted_data_again (whole_sole _ _ encrypted_data-exact)

pub returns-clause-content : goal.returns-clause-content
returns-clause-content c = alike_exactly _ _ content_again (whole_sole _ _ content-exact)

pub returns-clause-contents : goal.returns-clause-contents
returns-clause-contents c = alike_exactly _ _ contents_again (whole_sole _ _ contents-exact)

pub returns-clause-encrypted_key : goal.returns-clause-encrypted_key
returns-clause-encrypted_key c = alike_exactly _ _ encrypted_key_again (whole_sole _ _ encrypted_key-exact)

pub returns-clause-certificate : goal.returns-clause-certificate
returns-clause-certificate c = alike_exactly _ _ cert_bag_again (whole_sole _ _ cert_bag-exact)

pub returns-clause-attribute : goal.returns-clause-attribute
returns-clause-attribute c = alike _ _ _ attribute_again (whole_sole _ _ attribute-exact) attribute_once

pub returns-clause-bag : goal.returns-clause-bag
returns-clause-bag c = alike _ _ _ bag_again (whole_sole _ _ bag-exact) bag_once

pub returns-clause-bags : goal.returns-clause-bags
returns-clause-bags c = alike _ _ _ bags_again (whole_sole _ _ bags-exact) bags_once

pub returns-clause-store : goal.returns-clause-store
returns-clause-store c = alike_exactly _ _ store_again (whole_sole _ _ pfx-exact)

pub returns-clause-kind : goal.returns-clause-kind
returns-clause-kind c = λ k. alike_exactly _ _ (kind_text_again k) (whole_sole _ _ (kind_front-exact k))
