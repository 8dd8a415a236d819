use Rattle.p12.proofs.Again.{algorithm_again, cert_bag_again, content_again, contents_again, digest_again, encrypted_content_again, encrypted_data_again, encrypted_key_again, kind_text_again, mac_again, params_again, store_again}
use Rattle.p12_laws.proofs.rereading.written_values_are_read_again.Goals as goal

pub returns-clause-params : goal.returns-clause-params
returns-clause-params c = params_again

pub returns-clause-algorithm : goal.returns-clause-algorithm
returns-clause-algorithm c = algorithm_again

pub returns-clause-digest : goal.returns-clause-digest
returns-clause-digest c = digest_again

pub returns-clause-mac : goal.returns-clause-mac
returns-clause-mac c = mac_again

pub returns-clause-encrypted_content : goal.returns-clause-encrypted_content
returns-clause-encrypted_content c = encrypted_content_again

pub returns-clause-encrypted_data : goal.returns-clause-encrypted_data
returns-clause-encrypted_data c = encrypted_data_again

pub returns-clause-content : goal.returns-clause-content
returns-clause-content c = content_again

pub returns-clause-contents : goal.returns-clause-contents
returns-clause-contents c = contents_again

pub returns-clause-encrypted_key : goal.returns-clause-encrypted_key
returns-clause-encrypted_key c = encrypted_key_again

pub returns-clause-certificate : goal.returns-clause-certificate
returns-clause-certificate c = cert_bag_again

pub returns-clause-store : goal.returns-clause-store
returns-clause-store c = store_again

pub returns-clause-kind : goal.returns-clause-kind
returns-clause-kind c = kind_text_again
