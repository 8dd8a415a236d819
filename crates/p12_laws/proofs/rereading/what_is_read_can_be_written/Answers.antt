use Rattle.p12.proofs.Again.{algorithm_writes, attribute_writes, bag_writes, bags_write, cert_bag_writes, content_writes, contents_write, digest_writes, encrypted_content_writes, encrypted_data_writes, encrypted_key_writes, kind_text_writes, mac_writes, store_writes}
use Rattle.p12_laws.proofs.rereading.what_is_read_can_be_written.Goals as goal

pub returns-clause-algorithm : goal.returns-clause-algorithm
returns-clause-algorithm c = algorithm_writes

pub returns-clause-digest : goal.returns-clause-digest
returns-clause-digest c = digest_writes

pub returns-clause-mac : goal.returns-clause-mac
returns-clause-mac c = mac_writes

pub returns-clause-encrypted_content : goal.returns-clause-encrypted_content
returns-clause-encrypted_content c = encrypted_content_writes

pub returns-clause-encrypted_data : goal.returns-clause-encrypted_data
returns-clause-encrypted_data c = encrypted_data_writes

pub returns-clause-content : goal.returns-clause-content
returns-clause-content c = content_writes

pub returns-clause-encrypted_key : goal.returns-clause-encrypted_key
returns-clause-encrypted_key c = encrypted_key_writes

pub returns-clause-certificate : goal.returns-clause-certificate
returns-clause-certificate c = cert_bag_writes

pub returns-clause-attribute : goal.returns-clause-attribute
returns-clause-attribute c = attribute_writes

pub returns-clause-bag : goal.returns-clause-bag
returns-clause-bag c = bag_writes

pub returns-clause-store : goal.returns-clause-store
returns-clause-store c = store_writes

pub returns-clause-kind : goal.returns-clause-kind
returns-clause-kind c = kind_text_writes

pub returns-clause-contents : goal.returns-clause-contents
returns-clause-contents c = contents_write

pub returns-clause-bags : goal.returns-clause-bags
returns-clause-bags c = bags_write
