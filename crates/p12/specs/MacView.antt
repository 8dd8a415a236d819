-- What is seen of a MAC that lends its parts: the same in memory of its own.
use Rattle.p12.specs.AlgorithmView.{seen_algorithm}
use Rattle.p12.specs.declared.digest_info.DigestInfo.{DigestInfo}
use Rattle.p12.specs.declared.mac_data.MacData.{MacData}
use Rattle.p12.specs.declared.digest_info.DigestView.{DigestView}
use Rattle.p12.specs.declared.mac_data.MacView.{MacView}

abbrev pub seen_digest : DigestView → DigestInfo
seen_digest d = record { digest_algorithm = seen_algorithm d.algorithm; digest = d.digest.now }

abbrev pub seen_mac : MacView → MacData
seen_mac m = record {
  mac = record {
    digest_algorithm = seen_algorithm m.algorithm;
    digest = m.digest.now;
  };
  salt = m.salt.now;
  iterations = m.iterations;
}
